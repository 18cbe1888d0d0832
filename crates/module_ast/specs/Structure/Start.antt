-- 2.5.9 The start function.
use Rattle.std.specs.Prelude.{ℕ, nat_eq, Option, Some, None, Bool, false}

-- whether a function is the one that is started
abbrev pub is_start : (start : Option ℕ) → (func : ℕ) → Bool
is_start None f = false
is_start (Some s) f = nat_eq s f
