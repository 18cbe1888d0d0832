use Rattle.std.proofs.Common.{rules}
use Rattle.wasm_num.proofs.calcs.binary_32.Goals as goal

pub returns-in_default-y-2 : goal.returns-in_default-y-2
returns-in_default-y-2 c = search rules
