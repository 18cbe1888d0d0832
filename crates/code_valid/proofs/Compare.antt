-- The tests of the code.
use Rattle.std.proofs.Common.{◌≡◌, ℕ, ◌^◌, ◌<◌, ◌≤◌, List, [], ◌∷◌, ◌&&◌, Bool, false, nat_le, refl, ap₂, arith, pow_mono}
use Rattle.std.proofs.lemmas.Bool.Decides.{nat_tests}
use lib.Pointwise.{pointwise}
use Rattle.wasm_num.specs.declared.ValType.{ValType}
use Rattle.ctrl_stack.specs.Stack.{is_same_type}
use Rattle.code_valid.specs.Checking.{same_types}

pub as_pointwise : (f : ValType → ValType → Bool) → ((t u : ValType) → f t u ≡ is_same_type t u) → (a b : List ValType) → pointwise f a b ≡ same_types a b
as_pointwise f h [] [] = refl
as_pointwise f h [] (u ∷ us) = refl
as_pointwise f h (t ∷ ts) [] = refl
as_pointwise f h (t ∷ ts) (u ∷ us) = ap₂ (λ x y. x && y) (h t u) (as_pointwise f h ts us)

not_below : (a w : ℕ) → w < a → false ≡ nat_le a w
not_below a w h = grind (arith, nat_tests)

pub too_wide : (a w : ℕ) → 4 ≤ a → w < 16 → false ≡ nat_le (2 ^ a) w
too_wide a w h k = let m : 2 ^ 4 ≤ 2 ^ a = pow_mono h in not_below (2 ^ a) w (omega arith)
