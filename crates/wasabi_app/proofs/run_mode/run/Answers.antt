-- A script that is not given, or what came of the run.
use Rattle.std.proofs.Common.{Bor, List, ℕ, ap, option_map, Option, Err}
use Rattle.app_load.proofs.Going.{planned, was_no_command}
use Rattle.wasabi_app.specs.Modes.Run.{run_plan}
use Rattle.wasabi_app.proofs.run_mode.run.Goals as goal

pub returns-in-Some : goal.returns-in-Some
returns-in-Some g c = λ tools.
    planned _ _ _ _ c.run_by.result (ap (λ (o : Option (Bor (List ℕ))). option_map (run_plan c.args.given.now.subject.now) (option_map (λ t. t.now) o)) c.in-Some.is)
    (c.run_by.ensures tools)

pub returns-in-None : goal.returns-in-None
returns-in-None g c = λ tools.
    planned _ _ _ _ (Err c.bad_words.result)
    (ap (λ (o : Option (Bor (List ℕ))). option_map (run_plan c.args.given.now.subject.now) (option_map (λ t. t.now) o)) c.in-None.is)
    (was_no_command _ tools c.bad_words.result c.bad_words.ensures)
