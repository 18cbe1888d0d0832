-- 6.5.6 The name of each load and store instruction.
use Rattle.std.specs.Prelude.{ℕ, List}
use Rattle.module_ast.specs.declared.ops.LoadOp.{LoadOp}
use Rattle.module_ast.specs.declared.ops.StoreOp.{StoreOp}
use Rattle.module_ast.specs.Binary.Rows.{load_row, store_row}

abbrev pub load_name : LoadOp → List ℕ
load_name op = (load_row op).name

abbrev pub store_name : StoreOp → List ℕ
store_name op = (store_row op).name
