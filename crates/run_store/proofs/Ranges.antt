-- The sizes that a memory begins with and may have, by the first range.
use Rattle.std.proofs.Common.{◌≡◌, ℕ, ◌*◌, ◌≤◌, true, List, [], ◌∷◌, Option, Some, None, All, min, refl, sym, ap, arith, leb-true, slice_get}
use Rattle.std.specs.Prelude.{unwrap_or, nat_le, IfSome}
use Rattle.wasm_sem.specs.Types.{Range, Module}
use Rattle.module_ast.specs.Structure.{memories_of, tables_of}
use Rattle.module_ast.specs.Validation.{IsValid, memory_pages, memory_limits, IsOrdered, HasPagesWithin}
use Rattle.wasm_sem.specs.declared.Script.{Script}
use Rattle.wasm_sem.specs.Execution.{least_size, page_limit, calls_refusal, refusal_unless, memory_cap, Links, fit_elements, fit_segments, opening_globals}
use Rattle.wasm_sem.proofs.Straight.{some_is, none_some}
use Rattle.std.proofs.lemmas.Bool.{and_parts}
use Rattle.module_ast.specs.Memory.{page_size}
use Rattle.wasm_sem.proofs.SoundOpening.{links_fit}
use Rattle.wasm_sem.proofs.SoundEntries.{no_refusal, not_refused, can_link}

pub first_least : (rs : List Range) (r : Range) → Some r ≡ slice_get rs 0 → r.min ≡ least_size rs
first_least [] r h = absurd (none_some (sym h))
first_least (x ∷ rs) r h = ap (λ (r : Range). r.min) (some_is h)

pub first_most : (cap : ℕ) (rs : List Range) (r : Range) → Some r ≡ slice_get rs 0 → min cap (min (unwrap_or r.max 65536) 65536) ≡ page_limit cap rs
first_most cap [] r h = absurd (none_some (sym h))
first_most cap (x ∷ rs) r h = ap (λ (r : Range). min cap (min (unwrap_or r.max 65536) 65536)) (some_is h)

pub none_least : (rs : List Range) → None ≡ slice_get rs 0 → 0 ≡ least_size rs
none_least [] h = refl
none_least (x ∷ rs) h = absurd (none_some h)

pub none_most : (cap : ℕ) (rs : List Range) → None ≡ slice_get rs 0 → 0 ≡ page_limit cap rs
none_most cap [] h = refl
none_most cap (x ∷ rs) h = absurd (none_some h)

-- a memory that links begins within what it may have
within_limit : (cap : ℕ) (rs : List Range) → All (HasPagesWithin 65536) rs → All IsOrdered rs → least_size rs ≤ cap → least_size rs ≤ page_limit cap rs
within_limit cap [] h o k = omega arith
within_limit cap (r ∷ rs) h o k = go r.max (o 0 r (omega arith))
  where
    few : r.min ≤ 65536
    few = (h 0 r (omega arith)).0

    go : (max : Option ℕ) → IfSome max (λ max. r.min ≤ max) → r.min ≤ min cap (min (unwrap_or max 65536) 65536)
    go None e = omega (arith, few, k)
    go (Some n) e = omega (arith, few, k, e)

module _ (m : Module) (s : Script) (valid : IsValid m) (links : Links m s) where
  pub begins_within : least_size (memories_of m) ≤ page_limit s.pages (memories_of m)
  begins_within =
      let a = no_refusal (calls_refusal m 0 s.calls) _ links in
      let b = no_refusal (refusal_unless (nat_le (least_size (memories_of m)) s.pages) (memory_cap (least_size (memories_of m)))) _ a.1 in
      within_limit s.pages (memories_of m) (valid.rules memory_pages) (valid.rules memory_limits)
      (leb-true (least_size (memories_of m)) s.pages (not_refused (nat_le (least_size (memories_of m)) s.pages) (memory_cap (least_size (memories_of m))) b.0))

  pub elements_fit : fit_elements (opening_globals m s) (least_size (tables_of m)) m.elements ≡ true
  elements_fit =
      (and_parts (fit_elements (opening_globals m s) (least_size (tables_of m)) m.elements) (fit_segments (opening_globals m s) (least_size (memories_of m) * page_size) m.segments) (links_fit m s (can_link m s links))).0
