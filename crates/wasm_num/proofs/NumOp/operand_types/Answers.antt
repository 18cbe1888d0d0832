use Rattle.std.proofs.Common.{rules}
use Rattle.wasm_num.proofs.NumOp.operand_types.Goals as goal

pub returns-in-I32WrapI64 : goal.returns-in-I32WrapI64
returns-in-I32WrapI64 c = search rules
