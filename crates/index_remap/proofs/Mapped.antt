-- Function indices in the output.
use Rattle.std.proofs.Common.{◌≡◌, ℕ, ◌+◌, ◌-◌, ◌<◌, ◌≤◌, inl, inr, Some, None, cond, nat_lt, ap, ◌∙◌, arith}
use Rattle.std.proofs.lemmas.Bool.{lt-ltb, le-ltb, cases_lt}
use Rattle.index_remap.specs.declared.Remap.{Remap}
use Rattle.index_remap.specs.Remap.{map_index, unmap_index}

-- those of imports stay
pub map_below : (r : Remap) (f : ℕ) → f < r.imports → map_index r f ≡ f
map_below r f h = ap (λ b. cond b f (f + r.added)) (lt-ltb f r.imports h)

-- the others go behind the hooks
pub map_behind : (r : Remap) (k : ℕ) → map_index r (r.imports + k) ≡ (r.imports + r.added) + k
map_behind r k =
    let h : r.imports ≤ r.imports + k = omega arith in
    let e : (r.imports + k) + r.added ≡ (r.imports + r.added) + k = omega arith in
    ap (λ b. cond b (r.imports + k) ((r.imports + k) + r.added)) (le-ltb (r.imports + k) r.imports h) ∙ e

-- and are read back
pub unmapped : (r : Remap) (f : ℕ) → unmap_index r (map_index r f) ≡ Some f
unmapped r f = elim (cases_lt f r.imports) [ inl h ↦ below h | inr h ↦ behind h ]
  where
    below : f < r.imports → unmap_index r (map_index r f) ≡ Some f
    below h =
        ap (unmap_index r) (map_below r f h)
        ∙ ap (λ b. cond b (Some f) (cond (nat_lt f (r.imports + r.added)) None (Some (f - r.added)))) (lt-ltb f r.imports h)

    behind : r.imports ≤ f → unmap_index r (map_index r f) ≡ Some f
    behind h =
        let g = f + r.added in
        let first : r.imports ≤ g = omega (arith, h) in
        let second : r.imports + r.added ≤ g = omega (arith, h) in
        let back : g - r.added ≡ f = omega arith in
        ap (λ b. unmap_index r (cond b f g)) (le-ltb f r.imports h)
        ∙ ap (λ b. cond b (Some g) (cond (nat_lt g (r.imports + r.added)) None (Some (g - r.added)))) (le-ltb g r.imports first)
        ∙ ap (λ b. cond b None (Some (g - r.added))) (le-ltb g (r.imports + r.added) second)
        ∙ ap Some back
