use Rattle.std.proofs.Common.{◌<◌, length, ap, sym, subst, arith}
use Rattle.std.proofs.lemmas.Result.{IfOk-weaker}
use Rattle.wasm_sem.specs.Types.{Module}
use Rattle.instrument.specs.Plan.{HookPlan}
use Rattle.instrument.proofs.PlannedBodies.{new_bodies_few, planned_numbers, planned_size, planned_bound}
use Rattle.instrument.proofs.plan.HookPlan.body_size.Goals as goal

pub typed-body-requires : goal.typed-body-requires
typed-body-requires c =
    subst (λ (m : Module). c.args.defined < length m.bodies) (sym (ap (λ (p : HookPlan). p.module) c.self.view_is)) (omega (arith, c.requires, new_bodies_few c.args.self.now))

pub size_of-requires-clause-numbers : goal.size_of-requires-clause-numbers
size_of-requires-clause-numbers c =
    let held = c.self.inside in
    planned_numbers c.args.self.now (record { «module» = held.module.now; hooks = held.hooks.now }) c.typed-body.result c.args.defined held.table held.remap
    c.self.view_is c.typed-body.ensures.of c.typed-body.ensures.at c.self.invariant c.hooks_of.result c.hooks_of.ensures

pub returns-clause-size : goal.returns-clause-size
returns-clause-size c =
    let held = c.self.inside in
    IfOk-weaker c.size_of.result _ _
    (planned_size c.args.self.now (record { «module» = held.module.now; hooks = held.hooks.now }) c.typed-body.result c.args.defined held.table held.remap
    c.self.view_is c.typed-body.ensures.of c.typed-body.ensures.at c.self.invariant c.hooks_of.result c.hooks_of.ensures)
    c.size_of.ensures.length

pub returns-clause-bound : goal.returns-clause-bound
returns-clause-bound c =
    let held = c.self.inside in
    IfOk-weaker c.size_of.result _ _
    (planned_bound c.args.self.now (record { «module» = held.module.now; hooks = held.hooks.now }) c.typed-body.result c.args.defined held.table held.remap
    c.self.view_is c.typed-body.ensures.of c.typed-body.ensures.at c.self.invariant c.hooks_of.result c.hooks_of.ensures c.requires)
    c.size_of.ensures.bound
