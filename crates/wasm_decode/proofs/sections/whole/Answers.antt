use Rattle.std.proofs.Common.{length, ap, arith, rules}
use Rattle.module_ast.specs.Binary.{IsVec}
use Rattle.module_ast.proofs.Compose.{one_vec}
use Rattle.wasm_decode.proofs.Fronts.{whole_left, whole_fills, whole_lacks}
use Rattle.wasm_decode.proofs.sections.whole.Goals as goal

pub read_vec-requires-clause-bytes : goal.read_vec-requires-clause-bytes
read_vec-requires-clause-bytes g c = omega (arith, ap length c.new-cursor.ensures.left)

pub returns-in_err-part-clause-malformed : goal.returns-in_err-part-clause-malformed
returns-in_err-part-clause-malformed g c = λ e gs p.
    whole_lacks (IsVec g.E.Entry.is) _ _ c.new-cursor.ensures.left (c.in_err-part.ensures.malformed (search rules)) gs p

pub returns-then-left-ne0-clause-malformed : goal.returns-then-left-ne0-clause-malformed
returns-then-left-ne0-clause-malformed g c = λ e gs p.
    let r = c.in_ok-part.ensures.ok in
    whole_left (IsVec g.E.Entry.is) _ _ c.new-cursor.ensures.left (one_vec g.E.Entry.is g.met.E.Entry.one) _ r.0 r.1 (λ z. omega (arith, z)) gs p

pub returns-clause-ok : goal.returns-clause-ok
returns-clause-ok g c =
    let r = c.in_ok-part.ensures.ok in
    (r.0, whole_fills (IsVec g.E.Entry.is) _ _ c.new-cursor.ensures.left _ r.0 r.1 (omega arith), (r.2, r.3))
