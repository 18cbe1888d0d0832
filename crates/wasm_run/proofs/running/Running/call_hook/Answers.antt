use Rattle.std.proofs.Common.{sym, ap, subst}
use Rattle.module_ast.specs.Structure.{code_of}
use Rattle.wasm_sem.specs.Execution.{hook, instance}
use Rattle.wasm_run.specs.Moves.{RunsOn}
use Rattle.wasm_run.specs.Reaching.{Reaches}
use Rattle.wasm_run.specs.Running.{Run, one_more, configuration_of}
use Rattle.wasm_run.proofs.Answered.{called_index, called_label, hook_enough, hook_fits, hook_on, hook_called}
use Rattle.wasm_run.proofs.running.Running.call_hook.Goals as goal

pub step_behind-requires-clause-some : goal.step_behind-requires-clause-some
step_behind-requires-clause-some c =
    called_label c.self.inside.module.now c.self.inside.script.now c.self.inside.made c.self.inside.stack c.self.inside.memory c.self.inside.globals c.self.inside.hosts c.self.invariant.running c.self.invariant.counted c.args.slot c.requires.calls.0 (code_of c.args.rest.now) (hook c.args.ty.now)
    (subst (λ (r : Run). Reaches (instance r.module r.script) (configuration_of r) c.args.slot c.requires.calls.0 (code_of c.args.rest.now) (hook c.args.ty.now)) (sym c.self.view_is) c.requires.calls.1)

pub step_behind-requires-clause-index : goal.step_behind-requires-clause-index
step_behind-requires-clause-index c =
    called_index c.self.inside.module.now c.self.inside.script.now c.self.inside.made c.self.inside.stack c.self.inside.memory c.self.inside.globals c.self.inside.hosts c.self.invariant.running c.self.invariant.counted c.args.slot c.requires.calls.0 (code_of c.args.rest.now) (hook c.args.ty.now)
    (subst (λ (r : Run). Reaches (instance r.module r.script) (configuration_of r) c.args.slot c.requires.calls.0 (code_of c.args.rest.now) (hook c.args.ty.now)) (sym c.self.view_is) c.requires.calls.1)

pub return_numbers-requires-clause-params : goal.return_numbers-requires-clause-params
return_numbers-requires-clause-params c =
    hook_enough c.self.inside.module.now c.self.inside.script.now c.self.inside.made c.self.inside.stack c.self.inside.memory c.self.inside.globals c.self.inside.hosts c.self.invariant.running c.self.invariant.counted c.args.slot c.requires.calls.0 (code_of c.args.rest.now) c.args.ty.now c.step_behind.new.self c.step_behind.ensures
    (subst (λ (r : Run). Reaches (instance r.module r.script) (configuration_of r) c.args.slot c.requires.calls.0 (code_of c.args.rest.now) (hook c.args.ty.now)) (sym c.self.view_is) c.requires.calls.1)

pub return_numbers-requires-clause-room : goal.return_numbers-requires-clause-room
return_numbers-requires-clause-room c =
    hook_fits c.self.inside.module.now c.self.inside.script.now c.self.inside.made c.self.inside.stack c.self.inside.memory c.self.inside.globals c.self.inside.hosts c.self.invariant.running c.self.invariant.counted c.args.slot c.requires.calls.0 (code_of c.args.rest.now) c.args.ty.now c.step_behind.new.self c.step_behind.ensures
    (subst (λ (r : Run). Reaches (instance r.module r.script) (configuration_of r) c.args.slot c.requires.calls.0 (code_of c.args.rest.now) (hook c.args.ty.now)) (sym c.self.view_is) c.requires.calls.1)

pub invariant_of-self : goal.invariant_of-self
invariant_of-self c =
    let called =
    hook_called c.self.inside.module.now c.self.inside.script.now c.self.inside.made c.self.inside.stack c.self.inside.memory c.self.inside.globals c.self.inside.hosts c.self.invariant.running c.self.invariant.counted c.args.slot c.requires.calls.0 (code_of c.args.rest.now) c.args.ty.now c.step_behind.new.self c.step_behind.ensures
    (subst (λ (r : Run). Reaches (instance r.module r.script) (configuration_of r) c.args.slot c.requires.calls.0 (code_of c.args.rest.now) (hook c.args.ty.now)) (sym c.self.view_is) c.requires.calls.1) c.return_numbers.new.stack c.return_numbers.ensures in
    record {
      running = called.0;
      counted = called.1;
      functions_are = c.self.invariant.functions_are;
      table_is = c.self.invariant.table_is;
    }

pub returns : goal.returns
returns c = (
  ap one_more c.self.view_is,
  subst (λ (r : Run). RunsOn (configuration_of r) (configuration_of (one_more r))) c.self.view_is
      (hook_on c.self.inside.module.now c.self.inside.script.now c.self.inside.made c.self.inside.stack c.self.inside.memory c.self.inside.globals c.self.inside.hosts c.self.invariant.running c.self.invariant.counted c.args.slot c.requires.calls.0 (code_of c.args.rest.now) c.args.ty.now c.step_behind.new.self c.step_behind.ensures
      (subst (λ (r : Run). Reaches (instance r.module r.script) (configuration_of r) c.args.slot c.requires.calls.0 (code_of c.args.rest.now) (hook c.args.ty.now)) (sym c.self.view_is) c.requires.calls.1)),
)
