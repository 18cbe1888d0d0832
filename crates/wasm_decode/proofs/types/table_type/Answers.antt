use Rattle.std.proofs.Common.{arith}
use Rattle.module_ast.specs.Binary.{IsMemoryType}
use Rattle.code_decode.proofs.Faults.{on_err}
use Rattle.module_ast.proofs.Compose.{op_end, op_none, op_some}
use Rattle.wasm_decode.proofs.types.table_type.Goals as goal

pub returns-in_err-byte-clause-bad : goal.returns-in_err-byte-clause-bad
returns-in_err-byte-clause-bad c =
    on_err c.from_residual.result (op_end IsMemoryType 0x70 _ (omega arith) c.in_err-byte.ensures.bad.1)

pub returns-in_err-range-clause-bad : goal.returns-in_err-range-clause-bad
returns-in_err-range-clause-bad c =
    on_err c.from_residual-in_err-range.result (op_none IsMemoryType 0x70 _ _ (rw c.if-byte-ne112.false at c.in_ok-byte.ensures.ok.1) c.in_err-range.ensures.bad)

pub returns-clause-ok : goal.returns-clause-ok
returns-clause-ok c = op_some IsMemoryType 0x70 _ _ _ _ (rw c.if-byte-ne112.false at c.in_ok-byte.ensures.ok.1) c.in_ok-range.ensures.ok
