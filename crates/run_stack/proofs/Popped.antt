-- Values taken off the top.
use Rattle.std.proofs.Common.{◌≡◌, ℕ, zero, suc, ◌+◌, ◌≤◌, List, [], ◌∷◌, ◌++◌, length, take, Some, refl, sym, ap, subst, ◌∙◌, arith, append_assoc}
use Rattle.std.specs.Prelude.{reverse}
use Rattle.std.proofs.lemmas.List.{reverse-append}
use Rattle.std.proofs.lemmas.Option.{same_Some, none-some}
use Rattle.wasm_sem.specs.Types.{Value}
use Rattle.module_ast.specs.Validation.{push}
use Rattle.wasm_sem.specs.Execution.{pop_values}

-- what is popped, from the top, and what is left
pub record Parts (n : ℕ) (o acc taken rest : List Value) : Type 0 where
  pub whole : reverse acc ++ o ≡ reverse taken ++ rest
  pub count : length taken ≡ length acc + n

pub parts : (n : ℕ) (o acc taken rest : List Value) → pop_values n o acc ≡ Some (taken, rest) → Parts n o acc taken rest
parts zero o acc taken rest e =
    subst (λ (p : List Value × List Value). Parts 0 o acc p.0 p.1) (same_Some (acc, o) (taken, rest) e) (record { whole = refl; count = omega arith })
parts (suc n) [] acc taken rest e = absurd (none-some (taken, rest) e)
parts (suc n) (v ∷ o) acc taken rest e =
    let h = parts n o (v ∷ acc) taken rest e in
    record { whole = sym (append_assoc (reverse acc) (v ∷ []) o) ∙ ap (λ xs. xs ++ o) (sym (reverse-append (v ∷ []) acc)) ∙ h.whole; count = omega (arith, h.count) }

-- what is popped stands on top of what is below
pub pop_over : (n : ℕ) (o taken below a r : List Value) → pop_values n o taken ≡ Some (a, r) → pop_values n (o ++ below) taken ≡ Some (a, r ++ below)
pop_over zero o taken below a r h = ap (λ (p : List Value × List Value). Some (p.0, p.1 ++ below)) (same_Some (taken, o) (a, r) h)
pop_over (suc n) [] taken below a r h = absurd (none-some (a, r) h)
pop_over (suc n) (v ∷ o) taken below a r h = pop_over n o (v ∷ taken) below a r h

-- so many are there, and pushed they stand as before
pub popped_top : (n : ℕ) (o acc taken rest : List Value) → pop_values n o acc ≡ Some (taken, rest) → (n ≤ length o) × ((xs : List Value) → push taken xs ≡ push acc (take n o ++ xs))
popped_top zero o acc taken rest e =
    let same : ◌≡◌ {A = List Value × List Value} (acc, o) (taken, rest) = same_Some (acc, o) (taken, rest) e in
    (omega arith, λ xs. ap (λ (p : List Value × List Value). push p.0 xs) (sym same))
popped_top (suc n) [] acc taken rest e = absurd (none-some (taken, rest) e)
popped_top (suc n) (v ∷ o) acc taken rest e = let h = popped_top n o (v ∷ acc) taken rest e in (omega (arith, h.0), h.1)
