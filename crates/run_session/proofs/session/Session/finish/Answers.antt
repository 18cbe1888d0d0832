use Rattle.std.proofs.Common.{◌≡◌, ap, sym, ◌∙◌, subst, IfOk}
use Rattle.wasm_sem.specs.Execution.{summary}
use Rattle.wasm_run.specs.Running.{Run, configuration_of}
use Rattle.run_session.specs.Sessions.{told_outcome, pending_in, pending_summary}
use Rattle.run_session.proofs.Phases.{told_of}
use Rattle.run_session.proofs.Within.{within_script}
use Rattle.run_session.proofs.session.Session.finish.Goals as goal

pub returns-clause-outcome : goal.returns-clause-outcome
returns-clause-outcome g c =
    let machine = c.self.inside.machine in
    let pending = c.pending-pending.result in
    let parts = c.into_answers-started in
    let is_told : pending_summary pending c.pages-pages.result c.hosts-hosts.result parts.result.0 parts.result.1.items ≡ summary (configuration_of c.args.self) =
    told_of (configuration_of machine) pending c.pages-pages.result c.hosts-hosts.result parts.result.0 parts.result.1.items
    (c.pending-pending.ensures ∙ ap (λ (r : Run). pending_in (configuration_of r)) (sym c.self.view_is))
    c.pages-pages.ensures c.hosts-hosts.ensures parts.ensures.start parts.ensures.calls
    ∙ ap (λ (r : Run). summary (configuration_of r)) c.self.view_is in
    subst (λ s. IfOk c.tell.result (λ o. told_outcome o ≡ s)) is_told c.tell.ensures

pub returns-clause-within : goal.returns-clause-within
returns-clause-within g c = within_script c.self.inside.machine c.args.self c.self.inside.steps c.self.view_is c.self.invariant.0
