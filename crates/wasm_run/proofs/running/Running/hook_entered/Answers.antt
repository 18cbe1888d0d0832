use Rattle.std.proofs.Common.{◌≡◌, ◌∙◌, Some, None, ap, sym, subst}
use Rattle.wasm_sem.specs.Types.{ValType}
use Rattle.wasm_sem.specs.Execution.{hook_in, hook, instance, values_of, items}
use Rattle.std.specs.Prelude.{List}
use Rattle.wasm_run.specs.Entries.{EntersNext}
use Rattle.wasm_run.specs.Running.{Run, configuration_of}
use Rattle.wasm_run.proofs.Entered.{hook_entered_told, other_entered}
use Rattle.wasm_run.proofs.Hooks.{other_function}
use Rattle.run_store.specs.Resolved.{callee_for}
use Rattle.wasm_run.proofs.running.Running.hook_entered.Goals as goal

pub returns : goal.returns
returns c = record {
  hook = subst (λ (r : Run). Some (record { «import» = c.args.func; args = c.in_ok-args.args }) ≡ hook_in (items (instance r.module r.script) (configuration_of r))) c.self.view_is
      (hook_entered_told c.self.inside.module.now c.self.inside.script.now c.self.inside.made c.self.inside.stack c.self.inside.memory c.self.inside.globals c.self.inside.hosts c.self.invariant.running c.self.invariant.counted c.args.func c.args.numbers.now c.in-Hook.ty.now
      (subst (λ (r : Run). EntersNext (instance r.module r.script) (configuration_of r) c.args.func c.args.numbers.now (hook c.in-Hook.ty.now)) (sym c.self.view_is) c.in-Hook.ensures.next)
      c.in_ok-args.args (c.in_ok-args.ensures ∙ ap (λ (ts : List ValType). values_of ts c.args.numbers.now) c.as_slice.ensures));
  err = tt;
}

pub returns-in_default : goal.returns-in_default
returns-in_default c = record {
  hook = subst (λ (r : Run). None ≡ hook_in (items (instance r.module r.script) (configuration_of r))) c.self.view_is
      (other_entered c.self.inside.module.now c.self.inside.script.now c.self.inside.made c.self.inside.stack c.self.inside.memory c.self.inside.globals c.self.inside.hosts c.self.invariant.running c.self.invariant.counted c.args.func c.args.numbers.now (callee_for c.entered.result)
      (subst (λ (r : Run). EntersNext (instance r.module r.script) (configuration_of r) c.args.func c.args.numbers.now (callee_for c.entered.result)) (sym c.self.view_is) c.entered.ensures.next)
      (other_function c.entered.result c.in_default.not-Hook));
  err = tt;
}
