-- Whether there is a table, and a memory.
use Rattle.std.proofs.Common.{◌≡◌, ℕ, ◌<◌, List, [], ◌∷◌, length, Bool, true, false, refl, arith}
use Rattle.std.specs.Prelude.{◌↔◌, IsTrue}
use Rattle.code_valid.specs.Checking.{is_some_list}

pub some_list : {A : Type 0} (b : Bool) (n : ℕ) (xs : List A) → (IsTrue b ↔ (0 < n)) → n ≡ length xs → b ≡ is_some_list xs
some_list true n [] h e = let s = h.0 refl in absurd (omega arith)
some_list true n (x ∷ xs) h e = refl
some_list false n [] h e = refl
some_list false n (x ∷ xs) h e = h.1 (omega arith)
