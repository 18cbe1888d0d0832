use Rattle.std.proofs.Common.{ap, sym, ◌∙◌}
use Rattle.wasm_sem.specs.Execution.{is_over}
use Rattle.wasm_run.specs.Running.{Run, configuration_of}
use Rattle.run_session.proofs.Phases.{moment_so, pending_start, pending_call}
use Rattle.run_session.proofs.session.Session.pending.Goals as goal

pub returns-then-awaits_start : goal.returns-then-awaits_start
returns-then-awaits_start g c =
    let r = c.args.self.now in
    pending_start r.module.start (configuration_of r) (moment_so r.module r.script r.made)
    (ap (λ (q : Run). is_over (configuration_of q)) (sym c.self.view_is) ∙ sym c.if-over.ensures) (sym c.if-awaits_start.ensures)

pub returns : goal.returns
returns g c =
    let r = c.args.self.now in
    pending_call r.module.start (configuration_of r) (moment_so r.module r.script r.made)
    (ap (λ (q : Run). is_over (configuration_of q)) (sym c.self.view_is) ∙ sym c.if-over.ensures) (sym c.if-awaits_start.ensures)
