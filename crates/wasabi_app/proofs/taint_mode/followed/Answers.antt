-- The shadow takes what the run tells, and what it warns of is told.
use Rattle.std.proofs.Common.{◌∙◌, ap, map, string_bytes}
use Rattle.wasm_sem.specs.Types.{Module}
use Rattle.wasm_sem.specs.declared.Script.{Script}
use Rattle.wasm_sem.specs.Execution.{summary_of}
use Rattle.run_session.specs.Sessions.{told_outcome}
use Rattle.wasabi_app.specs.Warning.{watch_in}
use Rattle.wasabi_app.proofs.Modes.Taint.{told_warned}
use Rattle.wasabi_app.proofs.TaintRuns.{pair_links, opened_fit, opened_warns}
use Rattle.wasabi_app.proofs.taint_mode.followed.Goals as goal

pub new-requires-clause-links : goal.new-requires-clause-links
new-requires-clause-links c = pair_links c.args.m.now c.args.session.module c.args.info.now c.requires.paired c.args.script.now c.requires.range c.requires.links

pub follow_out-requires-clause-fit : goal.follow_out-requires-clause-fit
follow_out-requires-clause-fit c =
    opened_fit c.args.m.now c.args.session.module c.args.info.now c.requires.paired c.args.script.now c.requires.range c.requires.links (watch_in c.args.watched.now)
    c.as_slice.result.now c.as_slice-2.result.now c.in_ok-shadow.shadow c.args.session.script c.as_slice.ensures.value c.as_slice-2.ensures.value
    c.in_ok-shadow.ensures c.requires.script

pub returns : goal.returns
returns c =
    let ended =
    c.in_ok-outcome.ensures.ended ∙ ap (λ (x : Script). summary_of c.args.session.module x x.steps) c.requires.script
    ∙ ap (λ (o : Module). summary_of o c.args.script.now c.args.script.now.steps) c.requires.paired.is in
    let warns =
    c.warnings.ensures
    ∙ opened_warns c.args.m.now c.args.session.module c.args.info.now c.requires.paired c.args.script.now c.requires.range c.requires.links (watch_in c.args.watched.now)
    c.as_slice.result.now c.as_slice-2.result.now c.in_ok-shadow.shadow c.args.session.script c.as_slice.ensures.value c.as_slice-2.ensures.value
    c.in_ok-shadow.ensures c.requires.script c.follow_out.new.shadow c.in_ok-outcome.ensures.taken in
    record {
      told = told_warned (watch_in c.args.watched.now) c.args.m.now c.args.script.now (told_outcome c.in_ok-outcome.outcome) (map string_bytes c.as_slice-3.result.now)
          c.warnings.result.now c.told.result ended (ap (map string_bytes) c.as_slice-3.ensures.value ∙ c.requires.named) warns c.told.ensures.status c.told.ensures.text;
    }
