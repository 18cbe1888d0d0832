-- The types, and what an instruction does with a variable: each once, in the order of the declarations, and with its place.
use Rattle.std.specs.Prelude.{ℕ, List, [], ◌∷◌}
use Rattle.wasm_num.specs.declared.ValType.{ValType}
use Rattle.wasm_num.specs.declared.ValType.TheVariants as types
use Rattle.module_ast.specs.declared.ops.VarOp.{VarOp}
use Rattle.module_ast.specs.declared.ops.VarOp.TheVariants.{Get, Set, Tee}

abbrev pub both_types : List ValType
both_types = types.I32 ∷ types.I64 ∷ []

abbrev pub all_vars : List VarOp
all_vars = Get ∷ Set ∷ Tee ∷ []

-- The place of each, counted from 0.

abbrev pub type_number : ValType → ℕ
type_number types.I32 = 0
type_number types.I64 = 1

abbrev pub var_number : VarOp → ℕ
var_number Get = 0
var_number Set = 1
var_number Tee = 2
