use Rattle.std.proofs.Common.{rules}
use Rattle.wasm_decode.proofs.files.in_order.Goals as goal

pub returns-else-id-eq0-clause-yes : goal.returns-else-id-eq0-clause-yes
returns-else-id-eq0-clause-yes c = search rules
