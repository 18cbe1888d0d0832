-- How many of the listed calls were made.
use Rattle.std.proofs.Common.{◌≡◌, ◌+◌, ◌^◌, ◌≤◌, ◌<◌, ℕ, List, [], ◌∷◌, length, Option, Some, None, refl, arith, is_some, SomeIff, if◌then◌else◌}
use Rattle.std.proofs.lemmas.Grind.{common_steps}
use Rattle.outside_io.specs.Calls.{calls_made}
use Rattle.outside_io.specs.Failing.{kept_at, listed_below}
use Rattle.outside_io.specs.declared.calls.Fail.{Fail}

-- below 0 no call is listed
pub listed_below-zero : (fails : List Fail) → listed_below fails 0 ≡ 0
listed_below-zero [] = refl
listed_below-zero (fail ∷ fails) = grind (arith, listed_below-zero fails)

-- no more calls are listed than the list is long
pub listed_below-length : (fails : List Fail) (bound : ℕ) → listed_below fails bound ≤ length fails
listed_below-length [] bound = omega arith
listed_below-length (fail ∷ fails) bound = grind (arith, listed_below-length fails bound)

-- with the next call, one more is listed where it is listed
pub listed_below-next : (fails : List Fail) (number : ℕ) →
    listed_below fails (number + 1) ≡ listed_below fails number + (if is_some (kept_at fails number) then 1 else 0)
listed_below-next [] number = omega arith
listed_below-next (fail ∷ fails) number = grind (arith, common_steps, listed_below-next fails number)

-- after a call, one more was made: the last call's number has no next one
pub made-next : (number : ℕ) (next : Option ℕ) → number < 2 ^ 64 → SomeIff next (number + 1 < 2 ^ 64) (number + 1) → calls_made next ≡ number + 1
made-next number None below none = omega (arith, none)
made-next number (Some after) below some = omega (arith, some)
