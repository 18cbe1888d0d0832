-- Looking an element up.
use Rattle.std.proofs.Common.{◌≡◌, ℕ, ◌∙◌, ap, sym, List, ◌<◌, ◌≤◌, length, slice_get, get_or, MatchOption, Option, None, Some, Bor}
use Rattle.std.specs.Prelude.{IfSome}
use Rattle.std.specs.Option.{option_copied}
use Rattle.std.proofs.lemmas.Option.{slice_get_past, slice_get-get_or}

-- what `get(n).copied()` answers
pub copied_at : {A : Type 0} (P : Bor A → Type 0) (o : Option (Bor A)) (xs : List A) (n : ℕ) → IfSome o (λ x. x.now ≡ get_or xs n x.now) → MatchOption o (length xs ≤ n) (λ x. (n < length xs) × P x) → option_copied o ≡ slice_get xs n
copied_at P None xs n e h = sym (slice_get_past xs n h)
copied_at P (Some x) xs n e h = ap Some e ∙ sym (slice_get-get_or xs n x.now h.0)
