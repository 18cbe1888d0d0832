-- Words without information or a script, or what came of them.
use Rattle.std.proofs.Common.{Err}
use Rattle.app_load.proofs.Going.{planned, was_no_command}
use Rattle.wasabi_app.specs.Modes.Tree.{tree_plan}
use Rattle.wasabi_app.proofs.ToldRuns.{both_given, no_info, no_script}
use Rattle.wasabi_app.proofs.tree_mode.tree.Goals as goal

pub returns-in_default : goal.returns-in_default
returns-in_default g c = λ tools.
    planned _ _ _ _ (Err c.bad_words.result) (no_info (tree_plan c.args.given.now.subject.now) _ _ c.in_default.is)
    (was_no_command _ tools c.bad_words.result c.bad_words.ensures)

pub returns-in_default-script : goal.returns-in_default-script
returns-in_default-script g c = λ tools.
    planned _ _ _ _ (Err c.bad_words-in_default-script.result) (no_script (tree_plan c.args.given.now.subject.now) _ _ _ c.in-Some.is c.in_default-script.is)
    (was_no_command _ tools c.bad_words-in_default-script.result c.bad_words-in_default-script.ensures)

pub returns : goal.returns
returns g c = λ tools.
    planned _ _ _ _ c.tree_by.result (both_given (tree_plan c.args.given.now.subject.now) _ _ _ _ c.in-Some.is c.in-Some-script.is) (c.tree_by.ensures tools)
