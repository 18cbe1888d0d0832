-- Which calls are listed to fail.
use Rattle.std.specs.Prelude.{◌+◌, ℕ, ◌==◌, not, ◌&&◌, nat_lt, if◌then◌else◌, is_some, List, [], ◌∷◌, Option, Some, None}
use Rattle.outside_io.specs.declared.calls.Fail.{Fail}

-- how many bytes the call with this number keeps, if it is listed: the first entry counts
abbrev pub kept_at : List Fail → ℕ → Option ℕ
kept_at [] number = None
kept_at (fail ∷ fails) number = if fail.call == number then Some fail.kept else kept_at fails number

-- how many numbers below this bound are listed; a number that is listed more than once counts as one
abbrev pub listed_below : List Fail → ℕ → ℕ
listed_below [] bound = 0
listed_below (fail ∷ fails) bound =
    listed_below fails bound + (if nat_lt fail.call bound && not (is_some (kept_at fails fail.call)) then 1 else 0)
