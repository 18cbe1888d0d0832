use Rattle.leb_binary.specs.Reading.{IsByte}
use Rattle.module_ast.proofs.Compose.{vec_none}
use Rattle.wasm_decode.proofs.Bytes.{bytes_short, bytes_some}
use Rattle.wasm_decode.proofs.codes.byte_vec.Goals as goal

pub returns-in_err-count-clause-malformed : goal.returns-in_err-count-clause-malformed
returns-in_err-count-clause-malformed c = λ e. vec_none IsByte _ c.in_err-count.ensures.bad.1

pub returns-in_err-taken-clause-malformed : goal.returns-in_err-taken-clause-malformed
returns-in_err-taken-clause-malformed c = λ e. bytes_short _ _ _ c.in_ok-count.ensures.ok.1 c.in_err-taken.ensures.bad.1

pub returns-clause-ok : goal.returns-clause-ok
returns-clause-ok c =
    bytes_some _ _ _ _ _ c.in_ok-bytes.bytes.items c.in_ok-count.ensures.ok.1 c.in_ok-taken.ensures.ok.1 c.in_ok-bytes.ensures.ok.1 c.in_ok-bytes.ensures.ok.0
