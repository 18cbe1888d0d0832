-- How many threads may work at the same time.
use Rattle.std.specs.Prelude.{ℕ, ◌≤◌}

-- from 1 to 64
abbrev pub IsJobCount : ℕ → Type 0
IsJobCount count = (1 ≤ count) × (count ≤ 64)
