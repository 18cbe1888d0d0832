use Rattle.module_ast.specs.Structure.{code_of}
use Rattle.wasm_sem.specs.Execution.{instance}
use Rattle.run_store.specs.Resolved.{callee_for}
use Rattle.wasm_run.specs.Running.{configuration_of}
use Rattle.wasm_run.proofs.Hooks.{nothing_told, none_told, on_err}
use Rattle.wasm_run.proofs.Targets.{reaches_wants}
use Rattle.wasm_run.proofs.running.Running.hook_called.Goals as goal

pub returns-in-NoCall-clause-hook : goal.returns-in-NoCall-clause-hook
returns-in-NoCall-clause-hook c =
    let inst = instance c.args.self.now.module c.args.self.now.script in
    none_told inst (configuration_of c.args.self.now) (nothing_told inst (configuration_of c.args.self.now) c.in-NoCall.ensures)

pub returns-in-Traps-clause-hook : goal.returns-in-Traps-clause-hook
returns-in-Traps-clause-hook c = none_told (instance c.args.self.now.module c.args.self.now.script) (configuration_of c.args.self.now) c.in-Traps.ensures.1

pub returns-in-Invokes-clause-err : goal.returns-in-Invokes-clause-err
returns-in-Invokes-clause-err c =
    on_err c.hook_of.result
    (reaches_wants (instance c.args.self.now.module c.args.self.now.script) (configuration_of c.args.self.now) c.in-Invokes.invocation.slot c.in-Invokes.invocation.func (code_of c.in-Invokes.invocation.rest.now)
    (callee_for c.in-Invokes.invocation.function) c.in-Invokes.ensures.0)
