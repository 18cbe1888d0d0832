-- The calls that were made on a shelf or a sink in memory, and the next one.
use Rattle.std.specs.Prelude.{◌≡◌, ◌+◌, ◌^◌, ◌<◌, ℕ, List, Option, Some, None, SomeIff}
use Rattle.outside_io.specs.Failing.{kept_at, listed_below}
use Rattle.outside_io.specs.declared.calls.Fail.{Fail}

-- which calls are to fail, and the number of the next call, if it has one
pub record CallCount : Type 0 where
  pub fails : List Fail
  pub next : Option ℕ

-- how many bytes the next call keeps, if it is to fail
abbrev pub failing_next : CallCount → Option ℕ
failing_next calls = elim (calls.next) [ None ↦ None | Some number ↦ kept_at calls.fails number ]

-- how many calls that have a number were made, by the number of the next one
abbrev pub calls_made : Option ℕ → ℕ
calls_made None = 2 ^ 64
calls_made (Some number) = number

-- how many calls that are listed to fail were made
abbrev pub listed_calls_made : CallCount → ℕ
listed_calls_made calls = listed_below calls.fails (calls_made calls.next)

-- the number of the next call, before and after one call: there is none after 2^64 - 1
abbrev pub IsNext : (old new : Option ℕ) → Type 0
IsNext None new = new ≡ None
IsNext (Some number) new = SomeIff new (number + 1 < 2 ^ 64) (number + 1)

-- one call was made; which calls are to fail stays as it is
abbrev pub CountsCall : (old new : CallCount) → Type 0
CountsCall old new = (new.fails ≡ old.fails) × IsNext old.next new.next
