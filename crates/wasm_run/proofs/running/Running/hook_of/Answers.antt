use Rattle.std.proofs.Common.{◌≡◌, ◌+◌, ◌≤◌, Some, None, length, List, ap, sym, subst}
use Rattle.module_ast.specs.Structure.{code_of}
use Rattle.wasm_sem.specs.Types.{ValType}
use Rattle.wasm_sem.specs.Execution.{hook_in, hook, instance, items}
use Rattle.run_stack.specs.Below.{IsBelow}
use Rattle.wasm_run.specs.Reaching.{Reaches}
use Rattle.run_store.specs.Resolved.{callee_for}
use Rattle.wasm_run.specs.Running.{Run, configuration_of}
use Rattle.wasm_run.proofs.Hooks.{other_called, other_function, words_there, words_are}
use Rattle.wasm_run.proofs.running.Running.hook_of.Goals as goal

pub returns-in_default : goal.returns-in_default
returns-in_default c = record {
  hook = subst (λ (r : Run). None ≡ hook_in (items (instance r.module r.script) (configuration_of r))) c.self.view_is
      (other_called c.self.inside.module.now c.self.inside.script.now c.self.inside.made c.self.inside.stack c.self.inside.memory c.self.inside.globals c.self.invariant.running c.args.invocation.slot c.args.invocation.func (code_of c.args.invocation.rest.now) (callee_for c.args.invocation.function) (subst (λ (r : Run). Reaches (instance r.module r.script) (configuration_of r) c.args.invocation.slot c.args.invocation.func (code_of c.args.invocation.rest.now) (callee_for c.args.invocation.function)) (sym c.self.view_is) c.requires.0) (other_function c.args.invocation.function c.in_default.not-Hook));
}

pub values_below-requires : goal.values_below-requires
values_below-requires c =
    subst (λ (ts : List ValType). c.above.result + length ts ≤ length c.self.inside.stack.values) (sym c.as_slice.ensures)
    (words_there c.self.inside.module.now c.self.inside.script.now c.self.inside.made c.self.inside.stack c.self.inside.memory c.self.inside.globals c.self.invariant.running c.args.invocation.slot c.args.invocation.func (code_of c.args.invocation.rest.now) (hook c.in-Hook.ty.now)
    (subst (Reaches (instance c.self.inside.module.now c.self.inside.script.now) (configuration_of (record { «module» = c.self.inside.module.now; script = c.self.inside.script.now; made = c.self.inside.made })) c.args.invocation.slot c.args.invocation.func (code_of c.args.invocation.rest.now)) (ap callee_for c.in-Hook.is)
    (subst (λ (r : Run). Reaches (instance r.module r.script) (configuration_of r) c.args.invocation.slot c.args.invocation.func (code_of c.args.invocation.rest.now) (callee_for c.args.invocation.function)) (sym c.self.view_is) c.requires.0)) c.above.result c.above.ensures)

pub returns : goal.returns
returns c = record {
  hook = subst (λ (r : Run). Some (record { «import» = c.args.invocation.func; args = c.in_ok-args.args }) ≡ hook_in (items (instance r.module r.script) (configuration_of r))) c.self.view_is
      (words_are c.self.inside.module.now c.self.inside.script.now c.self.inside.made c.self.inside.stack c.self.inside.memory c.self.inside.globals c.self.invariant.running c.args.invocation.slot c.args.invocation.func (code_of c.args.invocation.rest.now) c.in-Hook.ty.now
      (subst (Reaches (instance c.self.inside.module.now c.self.inside.script.now) (configuration_of (record { «module» = c.self.inside.module.now; script = c.self.inside.script.now; made = c.self.inside.made })) c.args.invocation.slot c.args.invocation.func (code_of c.args.invocation.rest.now)) (ap callee_for c.in-Hook.is)
      (subst (λ (r : Run). Reaches (instance r.module r.script) (configuration_of r) c.args.invocation.slot c.args.invocation.func (code_of c.args.invocation.rest.now) (callee_for c.args.invocation.function)) (sym c.self.view_is) c.requires.0)) c.above.result c.in_ok-args.args c.above.ensures
      (subst (λ (ts : List ValType). IsBelow c.above.result (length ts) c.in_ok-args.args c.self.inside.stack.values) c.as_slice.ensures c.in_ok-args.ensures.ok));
}
