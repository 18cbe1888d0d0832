use Rattle.std.proofs.Common.{rules}
use Rattle.wasm_num.proofs.NumOp.name.Goals as goal

pub returns-in-I64RemS : goal.returns-in-I64RemS
returns-in-I64RemS c = search rules
