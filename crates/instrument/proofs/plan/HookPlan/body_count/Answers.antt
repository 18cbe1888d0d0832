use Rattle.std.proofs.Common.{◌≡◌, length, ap, sym, ◌∙◌, subst, arith}
use Rattle.wasm_sem.specs.Types.{Module}
use Rattle.module_ast.specs.Validation.{IsWhole}
use Rattle.code_valid.proofs.Few.{entries_fit}
use Rattle.instrument.specs.Plan.{HookPlan}
use Rattle.instrument.proofs.PlannedBodies.{new_bodies_count}
use Rattle.instrument.proofs.plan.HookPlan.body_count.Goals as goal

pub overflow_cast-result : goal.overflow_cast-result
overflow_cast-result c =
    let m = c.self.inside.module.now in
    let whole : IsWhole m = c.module.ensures.whole in
    let bodies : length c.as_slice.result.now ≡ length m.bodies = ap length c.as_slice.ensures ∙ ap (λ (m : Module). length m.bodies) c.module.ensures.module in
    omega (arith, bodies, whole.bodies, entries_fit m whole)

pub returns : goal.returns
returns c =
    let p = c.args.self.now in
    let whole : IsWhole p.module = subst IsWhole (ap (λ (p : HookPlan). p.module) c.self.view_is) c.module.ensures.whole in
    ap length c.as_slice.ensures ∙ ap (λ (m : Module). length m.bodies) (c.module.ensures.module ∙ ap (λ (p : HookPlan). p.module) c.self.view_is)
    ∙ sym (new_bodies_count p whole.bodies)
