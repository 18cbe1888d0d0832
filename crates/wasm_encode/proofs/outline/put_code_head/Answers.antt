use Rattle.std.proofs.Common.{rules}
use Rattle.wasm_encode.proofs.outline.put_code_head.Goals as goal

pub returns : goal.returns
returns c = search rules
