use Rattle.std.proofs.Common.{sym, ap, subst}
use Rattle.std.specs.Prelude.{All}
use Rattle.module_ast.specs.Structure.{code_of}
use Rattle.wasm_sem.specs.declared.HostAnswer.{HostAnswer}
use Rattle.wasm_sem.specs.Execution.{IsWriteInRange, host, instance}
use Rattle.wasm_run.specs.Answering.{answer_given}
use Rattle.wasm_run.specs.Moves.{RunsOn}
use Rattle.wasm_run.specs.Reaching.{Reaches}
use Rattle.wasm_run.specs.Running.{Run, one_more, configuration_of}
use Rattle.wasm_run.proofs.Answered.{called_index, called_label, answer_in_range, host_enough, host_fits, host_on, host_called}
use Rattle.wasm_run.proofs.running.Running.call_host.Goals as goal

pub step_behind-requires-clause-some : goal.step_behind-requires-clause-some
step_behind-requires-clause-some c =
    called_label c.self.inside.module.now c.self.inside.script.now c.self.inside.made c.self.inside.stack c.self.inside.memory c.self.inside.globals c.self.inside.hosts c.self.invariant.running c.self.invariant.counted c.args.slot c.requires.calls.0 (code_of c.args.rest.now) (host c.args.ty.now)
    (subst (λ (r : Run). Reaches (instance r.module r.script) (configuration_of r) c.args.slot c.requires.calls.0 (code_of c.args.rest.now) (host c.args.ty.now)) (sym c.self.view_is) c.requires.calls.1)

pub step_behind-requires-clause-index : goal.step_behind-requires-clause-index
step_behind-requires-clause-index c =
    called_index c.self.inside.module.now c.self.inside.script.now c.self.inside.made c.self.inside.stack c.self.inside.memory c.self.inside.globals c.self.inside.hosts c.self.invariant.running c.self.invariant.counted c.args.slot c.requires.calls.0 (code_of c.args.rest.now) (host c.args.ty.now)
    (subst (λ (r : Run). Reaches (instance r.module r.script) (configuration_of r) c.args.slot c.requires.calls.0 (code_of c.args.rest.now) (host c.args.ty.now)) (sym c.self.view_is) c.requires.calls.1)

pub answer-requires-clause-params : goal.answer-requires-clause-params
answer-requires-clause-params c =
    host_enough c.self.inside.module.now c.self.inside.script.now c.self.inside.made c.self.inside.stack c.self.inside.memory c.self.inside.globals c.self.inside.hosts c.self.invariant.running c.self.invariant.counted c.args.slot c.requires.calls.0 (code_of c.args.rest.now) c.args.ty.now c.step_behind.new.self c.step_behind.ensures
    (subst (λ (r : Run). Reaches (instance r.module r.script) (configuration_of r) c.args.slot c.requires.calls.0 (code_of c.args.rest.now) (host c.args.ty.now)) (sym c.self.view_is) c.requires.calls.1)

pub answer-requires-clause-room : goal.answer-requires-clause-room
answer-requires-clause-room c =
    host_fits c.self.inside.module.now c.self.inside.script.now c.self.inside.made c.self.inside.stack c.self.inside.memory c.self.inside.globals c.self.inside.hosts c.self.invariant.running c.self.invariant.counted c.args.slot c.requires.calls.0 (code_of c.args.rest.now) c.args.ty.now c.step_behind.new.self c.step_behind.ensures
    (subst (λ (r : Run). Reaches (instance r.module r.script) (configuration_of r) c.args.slot c.requires.calls.0 (code_of c.args.rest.now) (host c.args.ty.now)) (sym c.self.view_is) c.requires.calls.1)

pub answer-requires-clause-writes : goal.answer-requires-clause-writes
answer-requires-clause-writes c =
    subst (λ (a : HostAnswer). All IsWriteInRange a.writes) (sym c.next_answer-given.ensures)
    (answer_in_range c.self.inside.script.now.hosts c.self.inside.hosts c.self.invariant.running.linked.range.writes)

pub invariant_of-self : goal.invariant_of-self
invariant_of-self c =
    let called =
    host_called c.self.inside.module.now c.self.inside.script.now c.self.inside.made c.self.inside.stack c.self.inside.memory c.self.inside.globals c.self.inside.hosts c.self.invariant.running c.self.invariant.counted c.args.slot c.requires.calls.0 (code_of c.args.rest.now) c.args.ty.now c.step_behind.new.self c.step_behind.ensures
    (subst (λ (r : Run). Reaches (instance r.module r.script) (configuration_of r) c.args.slot c.requires.calls.0 (code_of c.args.rest.now) (host c.args.ty.now)) (sym c.self.view_is) c.requires.calls.1) c.answer.new.stack c.answer.new.memory (answer_given c.next_answer-given.result) c.next_answer-given.ensures c.answer.ensures.stack c.answer.ensures.bytes c.answer.ensures.max in
    record {
      running = called.0;
      counted = called.1;
      functions_are = c.self.invariant.functions_are;
      table_is = c.self.invariant.table_is;
    }

pub returns : goal.returns
returns c = (
  ap one_more c.self.view_is,
  subst (λ (r : Run). RunsOn (configuration_of r) (configuration_of (one_more r))) c.self.view_is
      (host_on c.self.inside.module.now c.self.inside.script.now c.self.inside.made c.self.inside.stack c.self.inside.memory c.self.inside.globals c.self.inside.hosts c.self.invariant.running c.self.invariant.counted c.args.slot c.requires.calls.0 (code_of c.args.rest.now) c.args.ty.now c.step_behind.new.self c.step_behind.ensures
      (subst (λ (r : Run). Reaches (instance r.module r.script) (configuration_of r) c.args.slot c.requires.calls.0 (code_of c.args.rest.now) (host c.args.ty.now)) (sym c.self.view_is) c.requires.calls.1)),
)
