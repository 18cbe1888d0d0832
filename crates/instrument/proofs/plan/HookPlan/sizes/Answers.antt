use denote.Param.Send.{sendable}
use Rattle.std.proofs.Common.{◌≤◌, length, ◌∙◌, sym, subst, arith}
use Rattle.std.proofs.Crossing.{crosses}
use Rattle.module_ast.specs.Binary.{module_bytes}
use Rattle.module_ast.specs.Validation.Limits.{longest_narrow_file}
use Rattle.instrument.specs.Plan.{HookPlan}
use Rattle.instrument.proofs.Crosses.{plan_sync}
use Rattle.instrument.proofs.PlannedSizes.{sizes_few, each_is, next_size, next_few, all_sizes}
use Rattle.instrument.proofs.plan.HookPlan.sizes.Goals as goal

pub map_parts-requires-sync-J : goal.map_parts-requires-sync-J
map_parts-requires-sync-J g c κs within = search (sendable, crosses, plan_sync) depth 100

pub overflow_add-together : goal.overflow_add-together
overflow_add-together g c =
    let p = c.args.self.now in
    let l = c.loop-size in
    let short : length (module_bytes p.module) ≤ longest_narrow_file = subst (λ (q : HookPlan). length (module_bytes q.module) ≤ longest_narrow_file) c.self.view_is c.self.invariant.short in
    omega (arith, next_few p c.deref-size-items.result.now _ c.body_count.ensures (c.deref-size-items.ensures.value ∙ c.in_ok-each.ensures.answered) c.in_ok-each.ensures.shown l.size-index c.unsigned_length.result l.together l.invariant c.loop-size-test.true c.unsigned_length.ensures.value c.unsigned_length.ensures.bound short)

pub overflow_add-together-in-loop-size : goal.overflow_add-together-in-loop-size
overflow_add-together-in-loop-size g c =
    let p = c.args.self.now in
    let l = c.loop-size in
    let short : length (module_bytes p.module) ≤ longest_narrow_file = subst (λ (q : HookPlan). length (module_bytes q.module) ≤ longest_narrow_file) c.self.view_is c.self.invariant.short in
    omega (arith, next_few p c.deref-size-items.result.now _ c.body_count.ensures (c.deref-size-items.ensures.value ∙ c.in_ok-each.ensures.answered) c.in_ok-each.ensures.shown l.size-index c.unsigned_length.result l.together l.invariant c.loop-size-test.true c.unsigned_length.ensures.value c.unsigned_length.ensures.bound short)

pub loop-size-preserved : goal.loop-size-preserved
loop-size-preserved g c =
    let l = c.loop-size in
    next_size c.args.self.now c.deref-size-items.result.now _ c.body_count.ensures (c.deref-size-items.ensures.value ∙ c.in_ok-each.ensures.answered) c.in_ok-each.ensures.shown l.size-index c.unsigned_length.result l.together l.invariant c.loop-size-test.true c.unsigned_length.ensures.value c.unsigned_length.ensures.bound

pub returns-clause-each : goal.returns-clause-each
returns-clause-each g c =
    let value = c.deref-size-items.ensures.value in
    sym value ∙ each_is c.args.self.now c.deref-size-items.result.now _ c.body_count.ensures (value ∙ c.in_ok-each.ensures.answered) c.in_ok-each.ensures.shown

pub returns-clause-together : goal.returns-clause-together
returns-clause-together g c =
    let l = c.loop-size in
    all_sizes c.args.self.now c.deref-size-items.result.now _ c.body_count.ensures (c.deref-size-items.ensures.value ∙ c.in_ok-each.ensures.answered) c.in_ok-each.ensures.shown l.size-index l.together l.invariant c.loop-size-test.false

pub returns-clause-bound : goal.returns-clause-bound
returns-clause-bound g c =
    let p = c.args.self.now in
    let l = c.loop-size in
    let short : length (module_bytes p.module) ≤ longest_narrow_file = subst (λ (q : HookPlan). length (module_bytes q.module) ≤ longest_narrow_file) c.self.view_is c.self.invariant.short in
    omega (arith, sizes_few p l.size-index l.together short l.invariant)
