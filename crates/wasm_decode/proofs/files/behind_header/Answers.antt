use Rattle.std.proofs.Common.{arith}
use Rattle.wasm_decode.proofs.Headers.{bytes_by, bytes_dropped}
use Rattle.wasm_decode.proofs.files.behind_header.Goals as goal

pub returns-clause-bytes : goal.returns-clause-bytes
returns-clause-bytes c = bytes_dropped 8 _ _ c.in_ok-rest.ensures.cases.1 (bytes_by c.args.bytes.now (λ i. omega (arith, c.type_inv.bytes i)))
