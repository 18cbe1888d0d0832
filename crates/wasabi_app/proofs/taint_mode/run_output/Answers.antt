-- They were linked and run, or were not.
use Rattle.std.proofs.Common.{subst}
use Rattle.wasm_sem.specs.Execution.{Links}
use Rattle.wasabi_app.specs.Warning.{watch_in}
use Rattle.wasabi_app.proofs.Linked.{fault_within}
use Rattle.wasabi_app.proofs.Modes.Taint.{was_unwarned, was_warned}
use Rattle.wasabi_app.proofs.taint_mode.run_output.Goals as goal

pub returns-in-Ok : goal.returns-in-Ok
returns-in-Ok c = record {
  ended = λ at tools.
      was_warned (watch_in c.args.watched.now) c.args.m.now c.args.script at tools c.in-Ok.told
      (subst (λ o. Links o c.args.script) c.requires.paired.is c.in-Ok.ensures.links) c.in-Ok.ensures.told;
}

pub unlinked-requires : goal.unlinked-requires
unlinked-requires c = λ call e. fault_within c.args.output.now c.args.script c.in-Err.fault call c.in-Err.ensures.refused e

pub returns-in-Err : goal.returns-in-Err
returns-in-Err c = record {
  ended = λ at tools.
      was_unwarned (watch_in c.args.watched.now) c.args.m.now c.args.output.now c.args.script c.in-Err.fault at tools c.unlinked.result c.requires.paired.is
      c.in-Err.ensures.refused c.unlinked.ensures;
}
