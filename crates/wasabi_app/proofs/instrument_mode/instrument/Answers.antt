-- Words without a target, or what came of it.
use Rattle.std.proofs.Common.{ap, option_map, sym, Err}
use Rattle.app_load.proofs.Going.{planned, was_no_command}
use Rattle.wasabi_app.specs.Modes.Instrument.{instrument_plan}
use Rattle.wasabi_app.specs.Words.{given_of}
use Rattle.wasabi_app.proofs.instrument_mode.instrument.Goals as goal

pub returns-in-Some : goal.returns-in-Some
returns-in-Some g c = λ tools.
    planned _ _ _ _ c.instrument_by.result (ap (option_map (instrument_plan (given_of c.args.given.now))) (sym c.in-Some.ensures)) (c.instrument_by.ensures tools)

pub returns-in-None : goal.returns-in-None
returns-in-None g c = λ tools.
    planned _ _ _ _ (Err c.bad_words.result) (ap (option_map (instrument_plan (given_of c.args.given.now))) (sym c.in-None.ensures))
    (was_no_command _ tools c.bad_words.result c.bad_words.ensures)
