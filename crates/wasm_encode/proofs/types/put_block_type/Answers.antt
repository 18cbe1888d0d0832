use Rattle.std.proofs.Common.{rules}
use Rattle.wasm_encode.proofs.types.put_block_type.Goals as goal

pub returns-in-Indexed : goal.returns-in-Indexed
returns-in-Indexed c = search rules
