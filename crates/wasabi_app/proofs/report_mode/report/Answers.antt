-- Words without information or a script, or what came of them.
use Rattle.std.proofs.Common.{Err}
use Rattle.app_load.proofs.Going.{planned, was_no_command}
use Rattle.wasabi_app.specs.Modes.Report.{report_plan}
use Rattle.wasabi_app.proofs.ToldRuns.{both_given, no_info, no_script}
use Rattle.wasabi_app.proofs.report_mode.report.Goals as goal

pub returns-in_default : goal.returns-in_default
returns-in_default g c =
    planned _ _ _ _ (Err c.bad_words.result) (no_info (λ info script. report_plan c.args.given.now.subject.now info script c.args.given.now.kinds c.args.given.now.keeps) _ _ c.in_default.is)
    (was_no_command _ _ c.bad_words.result c.bad_words.ensures)

pub returns-in_default-script : goal.returns-in_default-script
returns-in_default-script g c =
    planned _ _ _ _ (Err c.bad_words-in_default-script.result) (no_script (λ info script. report_plan c.args.given.now.subject.now info script c.args.given.now.kinds c.args.given.now.keeps) _ _ _ c.in-Some.is c.in_default-script.is)
    (was_no_command _ _ c.bad_words-in_default-script.result c.bad_words-in_default-script.ensures)

pub returns : goal.returns
returns g c =
    planned _ _ _ _ c.report_by.result (both_given (λ info script. report_plan c.args.given.now.subject.now info script c.args.given.now.kinds c.args.given.now.keeps) _ _ _ _ c.in-Some.is c.in-Some-script.is) c.report_by.ensures
