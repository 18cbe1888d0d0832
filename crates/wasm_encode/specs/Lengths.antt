-- Bounds on the lengths of instructions.
use Rattle.std.specs.Prelude.{ℕ, ◌+◌, ◌*◌, length}
use Rattle.module_ast.specs.declared.code.Instr.{Instr}
use Rattle.module_ast.specs.declared.code.Instr.TheVariants.{BrTable}

-- a bound on the number of bytes of an instruction without a nested sequence: five for each label of a table, and 16
-- more
abbrev pub most_bytes : Instr → ℕ
most_bytes (BrTable ls l) = 16 + 5 * length ls
most_bytes _ = 16
