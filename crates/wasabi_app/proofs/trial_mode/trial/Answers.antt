-- A subject that is no number, or what came of the trial.
use Rattle.std.proofs.Common.{◌∙◌, ap, option_map, sym, Err}
use Rattle.app_load.proofs.Going.{planned, was_no_command}
use Rattle.wasabi_app.specs.Modes.Trial.{trial_plan}
use Rattle.wasabi_app.proofs.trial_mode.trial.Goals as goal

pub returns-in-Some : goal.returns-in-Some
returns-in-Some g c = λ at.
    planned _ _ _ _ c.try_number.result (ap (option_map trial_plan) (sym c.number_in.ensures ∙ c.in-Some.is)) (c.try_number.ensures at)

pub returns-in-None : goal.returns-in-None
returns-in-None g c = λ at.
    planned _ _ _ _ (Err c.bad_words.result) (ap (option_map trial_plan) (sym c.number_in.ensures ∙ c.in-None.is))
    (was_no_command at _ c.bad_words.result c.bad_words.ensures)
