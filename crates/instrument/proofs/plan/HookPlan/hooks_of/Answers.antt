use Rattle.std.proofs.Common.{◌+◌, ◌<◌, length, ap, sym, ◌∙◌, subst, arith}
use Rattle.wasm_sem.specs.Types.{Module}
use Rattle.hook_select.specs.Selections.{hooks_at}
use Rattle.hook_mono.specs.Needed.{import_count}
use Rattle.instrument.specs.Plan.{HookPlan}
use Rattle.instrument.proofs.PlannedBodies.{new_bodies_few}
use Rattle.instrument.proofs.plan.HookPlan.hooks_of.Goals as goal

pub func_of-requires : goal.func_of-requires
func_of-requires c =
    subst (λ (m : Module). c.args.defined < length m.bodies) (sym (ap (λ (p : HookPlan). p.module) c.self.view_is)) (omega (arith, c.requires, new_bodies_few c.args.self.now))

pub returns : goal.returns
returns c =
    c.«at».ensures ∙ ap (hooks_at c.self.inside.hooks.now) c.func_of.ensures
    ∙ ap (λ (p : HookPlan). hooks_at p.hooks (import_count p.module + c.args.defined)) c.self.view_is
