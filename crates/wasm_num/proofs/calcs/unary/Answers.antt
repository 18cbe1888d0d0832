use Rattle.std.proofs.Common.{arith}
use Rattle.std.proofs.lemmas.Grind.{common_steps}
use Rattle.wasm_num.proofs.calcs.unary.Goals as goal

pub returns-in-I32WrapI64-I64 : goal.returns-in-I32WrapI64-I64
returns-in-I32WrapI64-I64 c = grind (arith, common_steps)

pub returns-in-I32Extend8S-I32 : goal.returns-in-I32Extend8S-I32
returns-in-I32Extend8S-I32 c = grind (arith, common_steps)

pub returns-in-I32Extend16S-I32 : goal.returns-in-I32Extend16S-I32
returns-in-I32Extend16S-I32 c = grind (arith, common_steps)

pub returns-in-I64Extend8S-I64 : goal.returns-in-I64Extend8S-I64
returns-in-I64Extend8S-I64 c = grind (arith, common_steps)

pub returns-in-I64Extend16S-I64 : goal.returns-in-I64Extend16S-I64
returns-in-I64Extend16S-I64 c = grind (arith, common_steps)

pub returns-in-I64Extend32S-I64 : goal.returns-in-I64Extend32S-I64
returns-in-I64Extend32S-I64 c = grind (arith, common_steps)
