-- A subject that is not loaded, or what came of the rest.
use Rattle.module_ast.specs.Validation.{wide, longest_file}
use Rattle.app_load.specs.Wants.{named_read}
use Rattle.app_load.proofs.Going.{stopped}
use Rattle.wasabi_app.specs.Modes.Report.{reported_plan}
use Rattle.wasabi_app.specs.ToldRuns.{informed}
use Rattle.wasabi_app.proofs.ToldRuns.{with_named}
use Rattle.wasabi_app.proofs.report_mode.report_by.Goals as goal

pub returns-in-Err : goal.returns-in-Err
returns-in-Err g c =
    let next = reported_plan c.args.given.now.kinds c.args.given.now.keeps in
    (stopped (named_read c.args.given.now.subject.now longest_file wide c.args.given.now.keeps)
    (λ named. informed c.args.info.now c.args.script.now (λ x. next x named.1) named.0) _ _ _ c.in-Err.refusal (rw c.wide.ensures at c.in-Err.ensures.refused) c.load_named.ensures.once)

pub returns-in-Ok : goal.returns-in-Ok
returns-in-Ok g c =
    with_named c.args.given.now.keeps c.args.given.now.subject.now c.args.info.now c.args.script.now (reported_plan c.args.given.now.kinds c.args.given.now.keeps) c.in-Ok.module c.in-Ok.names
    _ _ _ _ _ c.report_module.result (rw c.wide.ensures at c.in-Ok.ensures.ok) c.load_named.ensures.once c.report_module.ensures
