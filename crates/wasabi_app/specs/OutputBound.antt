-- The most bytes that an output or a trace may have.
use Rattle.std.specs.Prelude.{ℕ, ◌≤◌}
use Rattle.module_ast.specs.Validation.Limits.{longest_file}

-- at least 1, and at most as many as a file that is read may have
abbrev pub IsOutputBound : ℕ → Type 0
IsOutputBound bytes = (1 ≤ bytes) × (bytes ≤ longest_file)
