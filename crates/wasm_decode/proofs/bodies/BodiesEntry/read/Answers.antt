use Rattle.std.proofs.Common.{arith, rules}
use Rattle.module_ast.specs.Binary.{IsU32, IsBody}
use Rattle.module_ast.proofs.Compose.{sized_none_size}
use Rattle.wasm_decode.proofs.Fronts.{front_shorter}
use Rattle.wasm_decode.proofs.Slices.{slice_within, sized_ok, sized_lacks, sized_fails}
use Rattle.wasm_decode.proofs.bodies.BodiesEntry.read.Goals as goal

pub returns-in_err-size-clause-malformed : goal.returns-in_err-size-clause-malformed
returns-in_err-size-clause-malformed c = λ e. sized_none_size IsBody _ c.in_err-size.ensures.bad.1

pub returns-in_err-content-clause-malformed : goal.returns-in_err-content-clause-malformed
returns-in_err-content-clause-malformed c = λ e. sized_lacks IsBody _ _ _ c.in_ok-size.ensures.ok.1 c.in_err-content.ensures.bad.1

pub read_body-requires-clause-bytes : goal.read_body-requires-clause-bytes
read_body-requires-clause-bytes c =
    omega (arith, front_shorter IsU32 _ _ _ c.in_ok-size.ensures.ok.1, slice_within _ _ _ _ c.in_ok-content.ensures.ok.1)

pub returns-in_err-body-clause-malformed : goal.returns-in_err-body-clause-malformed
returns-in_err-body-clause-malformed c = λ e.
    sized_fails IsBody _ _ _ _ _ c.in_ok-size.ensures.ok.1 c.in_ok-content.ensures.ok.1 (c.in_err-body.ensures.malformed (search rules))

pub returns-clause-ok : goal.returns-clause-ok
returns-clause-ok c =
    let b = c.in_ok-body.ensures.ok in
    (b.0, sized_ok IsBody _ _ _ _ _ b.0 c.in_ok-size.ensures.ok.1 c.in_ok-content.ensures.ok.1 b.1, b.2)
