use Rattle.std.proofs.Common.{ap, sym, ◌∙◌, is_some}
use Rattle.wasm_sem.specs.Types.{Module}
use Rattle.wasm_run.specs.Running.{Run}
use Rattle.run_session.proofs.Within.{opened_within}
use Rattle.run_session.proofs.session.Session.link.Goals as goal

pub returns : goal.returns
returns g c = (c.in_ok-check_links.ensures, c.in_ok-machine.ensures)

pub invariant_of-result : goal.invariant_of-result
invariant_of-result g c = (
  opened_within c.in_ok-machine.machine c.args.valid.now c.args.script.now c.in_ok-machine.ensures c.requires.range,
  c.is_some.ensures ∙ ap (λ (m : Module). is_some m.start) c.module.ensures.module ∙ sym (ap (λ (r : Run). is_some r.module.start) c.in_ok-machine.ensures),
)
