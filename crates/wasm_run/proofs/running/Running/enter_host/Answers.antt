use Rattle.std.proofs.Common.{ap, sym, subst}
use Rattle.std.specs.Prelude.{All}
use Rattle.wasm_sem.specs.declared.Answer.TheVariants.{Returned}
use Rattle.wasm_sem.specs.declared.HostAnswer.{HostAnswer}
use Rattle.wasm_sem.specs.Execution.{host, instance, IsWriteInRange}
use Rattle.wasm_run.specs.Answering.{answer_given}
use Rattle.wasm_run.specs.Entries.{EntersNext}
use Rattle.wasm_run.specs.Moves.{EndsWith}
use Rattle.wasm_run.specs.Running.{Run, one_more, configuration_of}
use Rattle.wasm_run.proofs.Answered.{answer_in_range}
use Rattle.wasm_run.proofs.Entered.{host_ends, host_running, host_counted}
use Rattle.wasm_run.proofs.Moments.{wants}
use Rattle.wasm_run.proofs.NextCalls.{entry_wants}
use Rattle.wasm_run.proofs.running.Running.enter_host.Goals as goal

pub answer_entry-requires : goal.answer_entry-requires
answer_entry-requires c = record {
  writes = subst (λ (a : HostAnswer). All IsWriteInRange a.writes) (sym c.next_answer-given.ensures)
      (answer_in_range c.self.inside.script.now.hosts c.self.inside.hosts c.self.invariant.running.linked.range.writes);
}

pub invariant_of-self-2 : goal.invariant_of-self-2
invariant_of-self-2 c = record {
  running = host_running c.self.inside.module.now c.self.inside.script.now c.self.inside.made c.self.inside.stack c.self.inside.memory c.self.inside.globals c.self.inside.hosts c.self.invariant.running c.self.invariant.counted c.requires.next.0 c.requires.next.1 c.args.ty.now (subst (λ (r : Run). EntersNext (instance r.module r.script) (configuration_of r) c.requires.next.0 c.requires.next.1 (host c.args.ty.now)) (sym c.self.view_is) c.requires.next.2) c.answer_entry.new.memory (answer_given c.next_answer-given.result) c.next_answer-given.ensures c.in_ok-results.ensures.bytes c.in_ok-results.ensures.max;
  counted = host_counted c.self.inside.module.now c.self.inside.script.now c.self.inside.made c.self.inside.stack c.self.inside.memory c.self.inside.globals c.self.inside.hosts c.self.invariant.running c.self.invariant.counted c.requires.next.0 c.requires.next.1 c.args.ty.now (subst (λ (r : Run). EntersNext (instance r.module r.script) (configuration_of r) c.requires.next.0 c.requires.next.1 (host c.args.ty.now)) (sym c.self.view_is) c.requires.next.2);
  functions_are = c.self.invariant.functions_are;
  table_is = c.self.invariant.table_is;
}

pub returns : goal.returns
returns c = (
  ap one_more c.self.view_is,
  subst (λ (r : Run). EndsWith (instance r.module r.script) (Returned c.in_ok-results.results) (configuration_of r) (configuration_of (one_more r))) c.self.view_is
      (host_ends c.self.inside.module.now c.self.inside.script.now c.self.inside.made c.self.inside.stack c.self.inside.memory c.self.inside.globals c.self.inside.hosts c.self.invariant.running c.self.invariant.counted c.requires.next.0 c.requires.next.1 c.args.ty.now (subst (λ (r : Run). EntersNext (instance r.module r.script) (configuration_of r) c.requires.next.0 c.requires.next.1 (host c.args.ty.now)) (sym c.self.view_is) c.requires.next.2) (answer_given c.next_answer-given.result) c.next_answer-given.ensures c.in_ok-results.results c.in_ok-results.ensures.values),
)

pub returns-in_err-results : goal.returns-in_err-results
returns-in_err-results c =
    wants c.from_residual.result c.args.self.now _ c.from_residual.ensures.0 c.self.view_is
    (entry_wants (instance c.args.self.now.module c.args.self.now.script) (configuration_of c.args.self.now) c.requires.next.0 c.requires.next.1 (host c.args.ty.now) c.requires.next.2)
