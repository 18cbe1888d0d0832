-- A list of numbers, seen from its last.
use Rattle.std.proofs.Common.{◌≡◌, ℕ, zero, suc, ◌-◌, ◌<◌, ◌∷◌, [], List, length, drop, get_or, refl, sym, ap, ◌∙◌}
use Rattle.std.specs.Prelude.{reverse}
use Rattle.std.proofs.lemmas.List.{get_or-reverse}
use Rattle.module_ast.specs.Lists.{first_or}

-- what stands first behind some is found by its index
first_behind : (n : ℕ) (xs : List ℕ) → first_or (drop n xs) 0 ≡ get_or xs n 0
first_behind zero [] = refl
first_behind zero (x ∷ xs) = refl
first_behind (suc n) [] = refl
first_behind (suc n) (x ∷ xs) = first_behind n xs

-- counted from the last
pub from_last : (xs s : List ℕ) (n : ℕ) → reverse xs ≡ s → n < length xs → get_or xs (length xs - 1 - n) 0 ≡ first_or (drop n s) 0
from_last xs s n e h = sym (first_behind n s ∙ ap (λ l. get_or l n 0) (sym e) ∙ get_or-reverse xs n 0 h)
