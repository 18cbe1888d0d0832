use Rattle.std.proofs.Common.{◌≤◌, ◌<◌, ◌^◌, arith, [], ◌∷◌, ◌++◌, length-append}
use Rattle.module_ast.specs.Binary.{IsGroup, local_count, group_node}
use Rattle.module_ast.proofs.Compose.{read_more, vec_none, vec_stuck, vec_some}
use Rattle.code_decode.specs.Locals.{group_floats}
use Rattle.code_decode.proofs.Bodies.{local_count_push, locals_some, locals_none, locals_many}
use Rattle.code_decode.proofs.Items.{one_group}
use Rattle.code_decode.proofs.Stand.{stand_push, stand_float, group_stands}
use Rattle.code_decode.proofs.locals.read_locals.Goals as goal
use Rattle.code_decode.proofs.locals.read_locals.Goals.{in-Some+in_ok-push-in-Some, in-None}

pub returns-in_err-groups-clause-malformed : goal.returns-in_err-groups-clause-malformed
returns-in_err-groups-clause-malformed c = λ e. locals_none _ (vec_none IsGroup _ c.in_err-groups.ensures.bad.1)

pub returns-in_err-count-clause-malformed : goal.returns-in_err-count-clause-malformed
returns-in_err-count-clause-malformed c = λ e.
    let i = c.loop-i.invariant in
    locals_none _ (vec_stuck IsGroup one_group _ _ _ _ i.0 c.in_ok-groups.ensures.ok.1 i.1 (omega (arith, i.2)) c.in_err-count.ensures.bad)

pub loop-i-preserved : goal.loop-i-preserved
loop-i-preserved c =
    let i = c.loop-i.invariant in
    elim c.match-ty.branch [
      | in-Some+in_ok-push-in-Some w ↦
          let r = rw w.in-Some.is at c.in_ok-count.ensures.ok in
          rw (w.items-is, w.floats-is, w.in_ok-push-in-Some.ensures.items)
          (i.0 ++ r.0 ∷ [], read_more IsGroup _ _ _ i.0 r.0 i.1 r.1, omega (arith, length-append i.0 (r.0 ∷ []), i.2), stand_push group_floats group_node _ _ _ i.0 r.0 i.3 (group_stands r.0 _ _ r.2 r.3), omega (arith, i.4, r.2, local_count_push i.0 r.0), omega (arith, i.5))
      | in-None w ↦
          let r = rw w.in-None.is at c.in_ok-count.ensures.ok in
          rw (w.items-is, w.floats-is)
          (i.0 ++ r.0 ∷ [], read_more IsGroup _ _ _ i.0 r.0 i.1 r.1, omega (arith, length-append i.0 (r.0 ∷ []), i.2), stand_float group_floats group_node c.loop-i.items.items i.0 r.0 r.3, omega (arith, i.4, r.2, local_count_push i.0 r.0), omega (arith, i.5))
    ]

pub returns-then-total-clause-malformed : goal.returns-then-total-clause-malformed
returns-then-total-clause-malformed c = λ e.
    let i = c.loop-i.invariant in
    let m : 2 ^ 32 ≤ local_count i.0 = omega (arith, i.4, c.if-total.true) in
    locals_many _ _ i.0 (vec_some IsGroup _ _ _ _ i.0 c.in_ok-groups.ensures.ok.1 i.1 (omega (arith, i.2))) m

pub returns-then-floats-clause-ok : goal.returns-then-floats-clause-ok
returns-then-floats-clause-ok c =
    let i = rw c.if-floats.true at c.loop-i.invariant in
    let m : local_count i.0 < 2 ^ 32 = omega (arith, i.4, c.if-total.false) in
    (i.0, locals_some _ _ i.0 (vec_some IsGroup _ _ _ _ i.0 c.in_ok-groups.ensures.ok.1 i.1 (omega (arith, i.2))) m, i.3)

pub returns-else-floats-clause-ok : goal.returns-else-floats-clause-ok
returns-else-floats-clause-ok c =
    let i = rw c.if-floats.false at c.loop-i.invariant in
    let m : local_count i.0 < 2 ^ 32 = omega (arith, i.4, c.if-total.false) in
    (i.0, locals_some _ _ i.0 (vec_some IsGroup _ _ _ _ i.0 c.in_ok-groups.ensures.ok.1 i.1 (omega (arith, i.2))) m, i.3)
