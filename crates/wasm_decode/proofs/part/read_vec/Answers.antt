use Rattle.std.proofs.Common.{arith, [], ◌∷◌, ◌++◌, ◌∙◌, length-append, rules}
use Rattle.module_ast.proofs.Compose.{read_more, vec_none, vec_stuck, vec_some}
use Rattle.module_ast.specs.Binary.{IsU32, AreItems}
use Rattle.wasm_decode.proofs.Fronts.{front_shorter}
use Rattle.wasm_decode.proofs.part.read_vec.Goals as goal

pub returns-in_err-count-clause-malformed : goal.returns-in_err-count-clause-malformed
returns-in_err-count-clause-malformed g c = λ e. vec_none g.E.Entry.is _ c.in_err-count.ensures.bad.1

pub returns-in_err-piece-clause-malformed : goal.returns-in_err-piece-clause-malformed
returns-in_err-piece-clause-malformed g c = λ e.
    let i = c.loop-i.invariant in
    vec_stuck g.E.Entry.is g.met.E.Entry.one _ _ _ _ i.0 c.in_ok-count.ensures.ok.1 i.1 (omega (arith, i.2)) (c.in_err-piece.ensures.malformed (search rules))

pub loop-i-preserved : goal.loop-i-preserved
loop-i-preserved g c =
    let i = c.loop-i.invariant in
    let r = c.in_ok-piece.ensures.ok in
    (i.0 ++ r.0 ∷ [], read_more g.E.Entry.is _ _ _ i.0 r.0 i.1 r.1, omega (arith, length-append i.0 (r.0 ∷ []), i.2), c.in_ok-add.ensures.added c.args.nesting i.0 r.0 i.3 r.2, c.in_ok-add.ensures.count ∙ i.4)

pub returns-clause-ok : goal.returns-clause-ok
returns-clause-ok g c =
    let i = c.loop-i.invariant in
    (i.0, vec_some g.E.Entry.is _ _ _ _ i.0 c.in_ok-count.ensures.ok.1 i.1 (omega (arith, i.2)), i.3, omega (arith, i.2, i.4))

pub read-requires-clause-bytes : goal.read-requires-clause-bytes
read-requires-clause-bytes g c =
    let i = c.loop-i.invariant in
    omega (arith, front_shorter IsU32 _ _ _ c.in_ok-count.ensures.ok.1, front_shorter (AreItems g.E.Entry.is) _ _ _ i.1)
