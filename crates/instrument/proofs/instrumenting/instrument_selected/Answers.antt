use Rattle.std.proofs.Common.{◌≡◌, ◌≤◌, ℕ, List, length, ap, sym, ◌∙◌, subst, arith}
use Rattle.wasm_sem.specs.Types.{Module, Selection}
use Rattle.module_ast.specs.Binary.{Fits}
use Rattle.module_ast.specs.Validation.Limits.{longest_file}
use Rattle.wasm_sem.specs.Execution.{IsFree}
use Rattle.instrument.specs.Made.{IsBare}
use Rattle.instrument.specs.Output.{output_bytes}
use Rattle.instrument.specs.Plan.{HookPlan}
use Rattle.instrument.specs.Accepted.{IsInstrumented}
use Rattle.instrument.proofs.OutputSame.{sound, instrumented}
use Rattle.instrument.proofs.instrumenting.instrument_selected.Goals as goal

-- the output of the plan's module
written : (p : HookPlan) (m : Module) (hooks : Selection) (bytes : List ℕ) → bytes ≡ output_bytes p.module p.hooks → p ≡ record { «module» = m; hooks = hooks } → bytes ≡ output_bytes m hooks
written p m hooks bytes is of = is ∙ ap (λ (p : HookPlan). output_bytes p.module p.hooks) of

pub returns-in-Ok-clause-sound : goal.returns-in-Ok-clause-sound
returns-in-Ok-clause-sound g c =
    let m = c.args.m.now in
    let hooks = c.args.hooks.now in
    let is : c.in-Ok.bytes.items ≡ output_bytes m hooks = written c.in_ok-plan.plan m hooks c.in-Ok.bytes.items c.in-Ok.ensures.ok c.in_ok-plan.ensures in
    let few : length (output_bytes m hooks) ≤ longest_file = subst (λ l. length l ≤ longest_file) is (omega (arith, c.in-Ok.ensures.few, c.requires.most)) in
    let free : IsFree m = subst IsFree c.module.ensures.module (c.is_free.ensures.0 c.if-not-is_free.false) in
    let fits : Fits m = subst (λ (p : HookPlan). Fits p.module) c.in_ok-plan.ensures c.in-Ok.ensures.fit in
    subst (IsBare m hooks) (sym is) (sound m hooks c.module.ensures.valid c.requires.limits (omega (arith, c.requires.short)) fits free few)

pub returns-in-Ok-clause-instrumented : goal.returns-in-Ok-clause-instrumented
returns-in-Ok-clause-instrumented g c =
    let m = c.args.m.now in
    let hooks = c.args.hooks.now in
    let is : c.in-Ok.bytes.items ≡ output_bytes m hooks = written c.in_ok-plan.plan m hooks c.in-Ok.bytes.items c.in-Ok.ensures.ok c.in_ok-plan.ensures in
    let few : length (output_bytes m hooks) ≤ longest_file = subst (λ l. length l ≤ longest_file) is (omega (arith, c.in-Ok.ensures.few, c.requires.most)) in
    let free : IsFree m = subst IsFree c.module.ensures.module (c.is_free.ensures.0 c.if-not-is_free.false) in
    λ file spelled short.
    subst (IsInstrumented file hooks) (sym is)
    (instrumented file m hooks (record { spelled = spelled; limits = c.requires.limits; valid = c.module.ensures.valid; free = free }) short few)
