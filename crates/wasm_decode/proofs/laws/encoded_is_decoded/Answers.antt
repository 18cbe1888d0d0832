use Rattle.wasm_decode.proofs.DecodedAgain.{decoded_again}
use Rattle.wasm_decode.proofs.laws.encoded_is_decoded.Goals as goal

pub returns : goal.returns
returns c = decoded_again
