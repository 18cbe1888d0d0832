-- Words without a target, information or a script, or what came of them.
use Rattle.std.proofs.Common.{◌∙◌, ap, Bor, List, ℕ, Option, option_and_then, option_map, Err}
use Rattle.app_load.specs.Plans.{Plan}
use Rattle.app_load.proofs.Going.{planned, was_no_command}
use Rattle.wasabi_app.specs.Modes.Record.{record_plan}
use Rattle.wasabi_app.specs.ToldRuns.{with_both}
use Rattle.wasabi_app.specs.Words.{Given, given_of}
use Rattle.wasabi_app.proofs.ToldRuns.{both_given, no_info, no_script}
use Rattle.wasabi_app.proofs.record_mode.record.Goals as goal

abbrev plan_to : Given → (target : List ℕ) → (info script : List ℕ) → Plan
plan_to g target info script = record_plan g.subject target info script g.bound

-- the plan, by the target that is given
abbrev by_target : Given → Option (Bor (List ℕ)) → Option Plan
by_target g target = option_and_then (λ t. with_both (plan_to g t) g.info g.script) (option_map (λ (t : Bor (List ℕ)). t.now) target)

pub returns-in_default : goal.returns-in_default
returns-in_default g c = λ tools.
    planned _ _ _ _ (Err c.bad_words.result) (ap (by_target (given_of c.args.given.now)) c.in_default.is)
    (was_no_command _ tools c.bad_words.result c.bad_words.ensures)

pub returns-in_default-info : goal.returns-in_default-info
returns-in_default-info g c = λ tools.
    let given = given_of c.args.given.now in
    planned _ _ _ _ (Err c.bad_words-in_default-info.result)
    (ap (by_target given) c.in-Some.is ∙ no_info (plan_to given c.in-Some.target.now) _ _ c.in_default-info.is)
    (was_no_command _ tools c.bad_words-in_default-info.result c.bad_words-in_default-info.ensures)

pub returns-in_default-script : goal.returns-in_default-script
returns-in_default-script g c = λ tools.
    let given = given_of c.args.given.now in
    planned _ _ _ _ (Err c.bad_words-in_default-script.result)
    (ap (by_target given) c.in-Some.is ∙ no_script (plan_to given c.in-Some.target.now) _ _ _ c.in-Some-info.is c.in_default-script.is)
    (was_no_command _ tools c.bad_words-in_default-script.result c.bad_words-in_default-script.ensures)

pub returns : goal.returns
returns g c = λ tools.
    let given = given_of c.args.given.now in
    planned _ _ _ _ c.record_by.result
    (ap (by_target given) c.in-Some.is ∙ both_given (plan_to given c.in-Some.target.now) _ _ _ _ c.in-Some-info.is c.in-Some-script.is)
    (c.record_by.ensures tools)
