-- Analyses that take events, one list after another.
use Rattle.std.proofs.Common.{◌≡◌, ℕ, ◌+◌, ◌≤◌, ◌<◌, List, [], ◌∷◌, ◌++◌, length, fold, filter, cond, Bool, true, false, All, refl, sym, ap, ap₂, subst, ◌∙◌, arith, append_assoc, append-nil, not, length-append}
use Rattle.std.proofs.lemmas.List.Elements.{filter-append, All-weaker, All-map}
use Rattle.std.proofs.lemmas.List.Filters.{length-filter_both}
use Rattle.wasm_sem.specs.Types.{Event}
use Rattle.analyses.specs.Book.{rows_after}
use Rattle.analyses.specs.Tools.{ToolState, state_after}
use Rattle.app_load.specs.declared.kinds.Kinds.{Kinds}
use Rattle.app_load.specs.Kinds.{has_kind}
use Rattle.app_load.specs.Feeding.{fed_tool, fed, IsFedPart, AreFedPart}

-- ---- one analysis, and a list of them

-- how many events it has taken then, what it counts, and its book
pub events_after : (s : ToolState) (es : List Event) → (fold state_after s es).event_count ≡ s.event_count + length es
events_after s [] = omega arith
events_after s (e ∷ es) = omega (arith, events_after (state_after s e) es)

pub counts_after : (s : ToolState) (es : List Event) → (fold state_after s es).counts ≡ s.counts
counts_after s [] = refl
counts_after s (e ∷ es) = counts_after (state_after s e) es

pub book_after : (s : ToolState) (es : List Event) → (fold state_after s es).book ≡ fold (rows_after s.counts) s.book es
book_after s [] = refl
book_after s (e ∷ es) = book_after (state_after s e) es

fold_append : (s : ToolState) (es fs : List Event) → fold state_after s (es ++ fs) ≡ fold state_after (fold state_after s es) fs
fold_append s [] fs = refl
fold_append s (e ∷ es) fs = fold_append (state_after s e) es fs

-- an analysis that is not picked has taken nothing
pub fed_other : (kinds : Kinds) (es : List Event) (s : ToolState) → has_kind kinds s.counts ≡ false → s ≡ fed_tool kinds es s
fed_other kinds es s e = rw e refl

-- one that is has taken them
pub fed_takes : (kinds : Kinds) (es : List Event) (s : ToolState) → has_kind kinds s.counts ≡ true → fed_tool kinds es s ≡ fold state_after s es
fed_takes kinds es s e = rw e refl

-- events after events
pub fed_then : (kinds : Kinds) (es fs : List Event) (s : ToolState) → fed_tool kinds (es ++ fs) s ≡ fed_tool kinds fs (fed_tool kinds es s)
fed_then kinds es fs s = by_pick (has_kind kinds s.counts) refl
  where
    by_pick : (b : Bool) → has_kind kinds s.counts ≡ b → fed_tool kinds (es ++ fs) s ≡ fed_tool kinds fs (fed_tool kinds es s)
    by_pick false e = sym (fed_other kinds (es ++ fs) s e) ∙ fed_other kinds fs s e ∙ ap (fed_tool kinds fs) (fed_other kinds es s e)
    by_pick true e =
        let later : has_kind kinds (fold state_after s es).counts ≡ true = ap (has_kind kinds) (counts_after s es) ∙ e in
        rw (e, later) (fold_append s es fs)

fed_none : (kinds : Kinds) (s : ToolState) → s ≡ fed_tool kinds [] s
fed_none kinds s = by_pick (has_kind kinds s.counts)
  where
    by_pick : (b : Bool) → s ≡ cond b s s
    by_pick true = refl
    by_pick false = refl

no_part : (kinds : Kinds) (es : List Event) (s : ToolState) → IsFedPart kinds es s s
no_part kinds es s = ([], es, refl, fed_none kinds s)

pub none_part : (kinds : Kinds) (es : List Event) (ts : List ToolState) → AreFedPart kinds es ts ts
none_part kinds es [] = tt
none_part kinds es (t ∷ ts) = (no_part kinds es t, none_part kinds es ts)

pub none_fed : (kinds : Kinds) (ts : List ToolState) → ts ≡ fed kinds [] ts
none_fed kinds [] = refl
none_fed kinds (t ∷ ts) = ap₂ (λ (u : ToolState) (us : List ToolState). u ∷ us) (fed_none kinds t) (none_fed kinds ts)

pub whole_part : (kinds : Kinds) (es : List Event) (s : ToolState) → IsFedPart kinds es s (fed_tool kinds es s)
whole_part kinds es s = (es, [], sym (append-nil es), refl)

pub all_part : (kinds : Kinds) (es : List Event) (ts : List ToolState) → AreFedPart kinds es ts (fed kinds es ts)
all_part kinds es [] = tt
all_part kinds es (t ∷ ts) = (whole_part kinds es t, all_part kinds es ts)

-- some of the events after all of others are some of all
part_then : (kinds : Kinds) (es fs rest : List Event) (s now : ToolState) → IsFedPart kinds fs (fed_tool kinds es s) now
    → IsFedPart kinds (es ++ fs ++ rest) s now
part_then kinds es fs rest s now (front, later, e, is) = (
  es ++ front,
  later ++ rest,
  append_assoc es fs rest ∙ ap (λ v. es ++ (v ++ rest)) e ∙ ap (λ v. es ++ v) (append_assoc front later rest) ∙ sym (append_assoc es front (later ++ rest)),
  is ∙ sym (fed_then kinds es front s),
)

pub parts_then : (kinds : Kinds) (es fs rest : List Event) (old now : List ToolState) → AreFedPart kinds fs (fed kinds es old) now
    → AreFedPart kinds (es ++ fs ++ rest) old now
parts_then kinds es fs rest [] [] p = tt
parts_then kinds es fs rest (o ∷ os) (n ∷ ns) p = (part_then kinds es fs rest o n p.0, parts_then kinds es fs rest os ns p.1)
parts_then kinds es fs rest _ _ p = absurd p

pub all_then : (kinds : Kinds) (es fs : List Event) (ts : List ToolState) → fed kinds (es ++ fs) ts ≡ fed kinds fs (fed kinds es ts)
all_then kinds es fs [] = refl
all_then kinds es fs (t ∷ ts) = ap₂ (λ u us. u ∷ us) (fed_then kinds es fs t) (all_then kinds es fs ts)

-- so are some of the first, and some of those behind all of the first
pub parts_early : (kinds : Kinds) (es fs : List Event) (old now : List ToolState) → AreFedPart kinds es old now → AreFedPart kinds (es ++ fs) old now
parts_early kinds es fs old now part = parts_then kinds [] es fs old now (subst (λ ts. AreFedPart kinds es ts now) (none_fed kinds old) part)

pub parts_late : (kinds : Kinds) (es fs : List Event) (old now : List ToolState) → AreFedPart kinds fs (fed kinds es old) now → AreFedPart kinds (es ++ fs) old now
parts_late kinds es fs old now part = subst (λ l. AreFedPart kinds l old now) (append-nil (es ++ fs)) (parts_then kinds es fs [] old now part)

-- ---- how many

-- no more events than before
few_after : (kinds : Kinds) (es : List Event) (s : ToolState) → (fed_tool kinds es s).event_count ≤ s.event_count + length es
few_after kinds es s = by_pick (has_kind kinds s.counts)
  where
    by_pick : (b : Bool) → (cond b (fold state_after s es) s).event_count ≤ s.event_count + length es
    by_pick true = omega (arith, events_after s es)
    by_pick false = omega arith

-- where there is room for all, there is for the first, and then for the others
abbrev pub HaveRoom : (N many : ℕ) → List ToolState → Type 0
HaveRoom N many ts = All (λ (t : ToolState). t.event_count + many < N) ts

pub rooms_front : (N : ℕ) (es fs : List Event) (ts : List ToolState) → HaveRoom N (length (es ++ fs)) ts → HaveRoom N (length es) ts
rooms_front N es fs ts room =
    All-weaker (λ (t : ToolState). t.event_count + length (es ++ fs) < N) (λ (t : ToolState). t.event_count + length es < N)
    (λ t few. omega (arith, length-append es fs, few)) ts room

pub rooms_rest : (N : ℕ) (kinds : Kinds) (es fs : List Event) (ts : List ToolState) → HaveRoom N (length (es ++ fs)) ts → HaveRoom N (length fs) (fed kinds es ts)
rooms_rest N kinds es fs ts room =
    let P : ToolState → Type 0 = λ t. t.event_count + length fs < N in
    All-map P (fed_tool kinds es) ts
    (All-weaker (λ (t : ToolState). t.event_count + length (es ++ fs) < N) (λ (t : ToolState). P (fed_tool kinds es t))
    (λ t few. omega (arith, length-append es fs, few, few_after kinds es t)) ts room)

-- of the events that a test takes
pub fewer : (p : Event → Bool) (es : List Event) → length (filter p es) ≤ length es
fewer p es = omega (arith, length-filter_both p (λ e. not (p e)) (λ e. refl) es)

pub passed_then : (p : Event → Bool) (es fs : List Event) → length (filter p (es ++ fs)) ≡ length (filter p es) + length (filter p fs)
passed_then p es fs = ap length (filter-append p es fs) ∙ length-append (filter p es) (filter p fs)
