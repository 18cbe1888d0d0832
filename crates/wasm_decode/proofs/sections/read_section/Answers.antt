use Rattle.std.proofs.Common.{arith, rules}
use Rattle.module_ast.specs.Binary.{IsU32, IsContent}
use Rattle.module_ast.proofs.Compose.{sized_none_size}
use Rattle.wasm_decode.proofs.Fronts.{front_shorter}
use Rattle.wasm_decode.proofs.Slices.{slice_within, sized_ok, sized_lacks, sized_fails}
use Rattle.wasm_decode.proofs.sections.read_section.Goals as goal

pub returns-in_err-size-clause-malformed : goal.returns-in_err-size-clause-malformed
returns-in_err-size-clause-malformed c = λ e s rest i p. sized_none_size (IsContent s.0) _ c.in_err-size.ensures.bad.1 rest s.1 p

pub returns-in_err-content-clause-malformed : goal.returns-in_err-content-clause-malformed
returns-in_err-content-clause-malformed c = λ e s rest i p.
    sized_lacks (IsContent s.0) _ _ _ c.in_ok-size.ensures.ok.1 c.in_err-content.ensures.bad.1 rest s.1 p

pub read_content-requires-clause-bytes : goal.read_content-requires-clause-bytes
read_content-requires-clause-bytes c =
    omega (arith, front_shorter IsU32 _ _ _ c.in_ok-size.ensures.ok.1, slice_within _ _ _ _ c.in_ok-content.ensures.ok.1)

pub returns-in_err-read_content-clause-malformed : goal.returns-in_err-read_content-clause-malformed
returns-in_err-read_content-clause-malformed c = λ e s rest i p.
    sized_fails (IsContent s.0) _ _ _ _ _ c.in_ok-size.ensures.ok.1 c.in_ok-content.ensures.ok.1 (λ x q. c.in_err-read_content.ensures.malformed (search rules) (s.0, x) i q) rest s.1 p

pub returns-clause-ok : goal.returns-clause-ok
returns-clause-ok c =
    let r = c.in_ok-read_content.ensures.ok in
    (r.0, r.1, sized_ok (IsContent r.0.0) _ _ _ _ _ r.0.1 c.in_ok-size.ensures.ok.1 c.in_ok-content.ensures.ok.1 r.2, r.3)
