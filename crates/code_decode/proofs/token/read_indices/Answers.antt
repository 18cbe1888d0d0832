use Rattle.std.proofs.Common.{arith, [], ◌∷◌, length-append}
use Rattle.module_ast.specs.Binary.{IsU32}
use Rattle.leb_binary.proofs.Fronts.{one_unsigned}
use Rattle.module_ast.proofs.Compose.{read_more, vec_none, vec_stuck, vec_some}
use Rattle.code_decode.proofs.token.read_indices.Goals as goal

pub returns-in_err-count-clause-malformed : goal.returns-in_err-count-clause-malformed
returns-in_err-count-clause-malformed c = λ e. vec_none IsU32 _ c.in_err-count.ensures.bad.1

pub returns-in_err-item-clause-malformed : goal.returns-in_err-item-clause-malformed
returns-in_err-item-clause-malformed c = λ e.
    let i = c.loop-i.invariant in
    vec_stuck IsU32 (one_unsigned 32) _ _ _ _ _ c.in_ok-count.ensures.ok.1 i.0 (omega (arith, i.1)) c.in_err-item.ensures.bad.1

pub loop-i-preserved : goal.loop-i-preserved
loop-i-preserved c =
    let i = c.loop-i.invariant in
    let x = c.in_ok-item.item in
    rw c.in_ok-push.ensures.items
    (read_more IsU32 _ _ _ _ _ i.0 c.in_ok-item.ensures.ok.1, omega (arith, length-append c.loop-i.items.items (x ∷ []), i.1))

pub returns-clause-ok : goal.returns-clause-ok
returns-clause-ok c =
    let i = c.loop-i.invariant in
    vec_some IsU32 _ _ _ _ _ c.in_ok-count.ensures.ok.1 i.0 (omega (arith, i.1))
