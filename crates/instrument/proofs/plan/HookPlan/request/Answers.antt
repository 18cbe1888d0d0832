use Rattle.std.proofs.Common.{◌<◌, length, ap, sym, subst, arith}
use Rattle.wasm_sem.specs.Types.{Module}
use Rattle.instrument.specs.Plan.{HookPlan}
use Rattle.instrument.proofs.PlannedBodies.{new_bodies_few, planned_added, planned_numbers, planned_body}
use Rattle.instrument.proofs.plan.HookPlan.request.Goals as goal

pub typed-requires : goal.typed-requires
typed-requires c =
    subst (λ (m : Module). c.args.defined < length m.bodies) (sym (ap (λ (p : HookPlan). p.module) c.self.view_is)) (omega (arith, c.requires, new_bodies_few c.args.self.now))

pub returns : goal.returns
returns c =
    let held = c.self.inside in
    let q : HookPlan = record { «module» = held.module.now; hooks = held.hooks.now } in
    record {
      added = planned_added c.args.self.now q c.typed.result c.args.defined held.table held.remap c.self.view_is c.typed.ensures.of c.typed.ensures.at c.self.invariant c.hooks_of.result c.hooks_of.ensures;
      numbers = planned_numbers c.args.self.now q c.typed.result c.args.defined held.table held.remap c.self.view_is c.typed.ensures.of c.typed.ensures.at c.self.invariant c.hooks_of.result c.hooks_of.ensures;
      makes = planned_body c.args.self.now q c.typed.result c.args.defined held.table held.remap c.self.view_is c.typed.ensures.of c.typed.ensures.at c.self.invariant c.hooks_of.result c.hooks_of.ensures;
    }
