-- 6.5.8 The name of each number instruction.
use Rattle.std.specs.Prelude.{ℕ, List}
use Rattle.wasm_num.specs.declared.NumOp.{NumOp}
use Rattle.wasm_num.specs.Rows.{num_row}

abbrev pub num_name : NumOp → List ℕ
num_name op = (num_row op).name
