-- Files that were written, or could not be.
use Rattle.std.proofs.Common.{◌≡◌, ◌≢◌, ℕ, ◌≤◌, ◌⊎◌, inl, inr, List, [], ◌∷◌, refl, ◌∙◌, arith, ap₂, cond, fold, Option}
use Rattle.outside_io.specs.Outside.{Contents, Rose, WrotePart, ShelfState}
use Rattle.wasm_sem.specs.Types.{Event}
use Rattle.analyses.specs.declared.Kind.{Kind}
use Rattle.analyses.specs.declared.Kind.TheVariants.{Blocks, Branches, Calls, Memory}
use Rattle.analyses.specs.Tools.{ToolState, state_after}
use Rattle.app_load.specs.Kinds.{has_kind, no_kinds}
use Rattle.app_load.specs.Feeding.{fed_tool, fed, AreFedPart}
use Rattle.app_load.specs.Writing.{PutCause, put_failed, put_no_memory, WroteAll, WroteSome, FilesCause}
use Rattle.app_load.specs.Plans.{File}

pub rose_before : (a b c : ℕ) → a ≤ b → Rose b c → Rose a c
rose_before a b c p (inl r) = inl (omega (arith, p, r))
rose_before a b c p (inr r) = inr r

pub all_some : (fs : List File) (old new : Option Contents) → WroteAll fs old new → WroteSome fs old new
all_some [] old new w = w
all_some (f ∷ fs) old new (mid, w, more) = inr (mid, w, all_some fs mid new more)

-- bytes that could not be written: the count rose, or memory ended
put_why : (name bytes : List ℕ) (old new : ShelfState) (status : ℕ) (text : List ℕ) → PutCause name bytes old new status text
    → ((status ≡ 5) × Rose old.write_faults new.write_faults) ⊎ (status ≡ 14)
put_why name bytes old new _ _ (put_failed r w) = inl (refl, r)
put_why name bytes old new _ _ (put_no_memory w) = inr refl

put_part : (name bytes : List ℕ) (old new : ShelfState) (status : ℕ) (text : List ℕ) → PutCause name bytes old new status text
    → WrotePart name bytes old.contents new.contents
put_part name bytes old new _ _ (put_failed r w) = w
put_part name bytes old new _ _ (put_no_memory w) = w

pub files_why : (fs : List File) (old new : ShelfState) (status : ℕ) (text : List ℕ) → FilesCause fs old new status text
    → ((status ≡ 5) × Rose old.write_faults new.write_faults) ⊎ (status ≡ 14)
files_why [] old new status text c = absurd c
files_why (f ∷ fs) old new status text (inl (once, p)) = put_why f.name f.bytes old new status text p
files_why (f ∷ fs) old new status text (inr (mid, once, w, c)) =
    elim (files_why fs mid new status text c) [ inl (e, r) ↦ inl (e, rose_before _ _ _ once.write_faults r) | inr e ↦ inr e ]

pub files_some : (fs : List File) (old new : ShelfState) (status : ℕ) (text : List ℕ) → FilesCause fs old new status text
    → WroteSome fs old.contents new.contents
files_some [] old new status text c = absurd c
files_some (f ∷ fs) old new status text (inl (once, p)) = inl (put_part f.name f.bytes old new status text p)
files_some (f ∷ fs) old new status text (inr (mid, once, w, c)) = inr (mid.contents, w, files_some fs mid new status text c)

pub files_there : (fs : List File) (old new : ShelfState) (status : ℕ) (text : List ℕ) → FilesCause fs old new status text → fs ≢ []
files_there [] old new status text c e = c
files_there (f ∷ fs) old new status text c e = cc

-- analyses of no kind take nothing
unpicked : (es : List Event) (tool : ToolState) → fed_tool no_kinds es tool ≡ tool
unpicked es tool = by tool.counts
  where
    by : (kind : Kind) → cond (has_kind no_kinds kind) (fold state_after tool es) tool ≡ tool
    by Blocks = refl
    by Branches = refl
    by Calls = refl
    by Memory = refl

pub fed_none : (es : List Event) (tools : List ToolState) → fed no_kinds es tools ≡ tools
fed_none es [] = refl
fed_none es (t ∷ tools) = ap₂ ◌∷◌ (unpicked es t) (fed_none es tools)

-- nor a part of what is given
pub fed_part_none : (es : List Event) (was is : List ToolState) → AreFedPart no_kinds es was is → is ≡ was
fed_part_none es [] [] p = refl
fed_part_none es (t ∷ ts) (u ∷ us) ((front, rest, e, k), more) = ap₂ ◌∷◌ (k ∙ unpicked front t) (fed_part_none es ts us more)
fed_part_none es _ _ p = absurd p
