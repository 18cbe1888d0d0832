-- Words that were not read, or what came of the plan of their mode.
use Rattle.std.proofs.lemmas.Result.{err_from_is_err_and}
use Rattle.command_line.specs.Lines.{texts}
use Rattle.wasabi_app.specs.Words.{given_of}
use Rattle.wasabi_app.proofs.Modes.{followed, not_followed}
use Rattle.wasabi_app.proofs.app.answer.Goals as goal

pub returns-in_err-given : goal.returns-in_err-given
returns-in_err-given g c =
    let p = err_from_is_err_and c.from_residual.result c.from_residual.ensures.1 in
    rw (p.1, p.2) (not_followed (texts c.args.words.now) _ _ c.in_err-given.field-0.0 c.in_err-given.ensures.refused)

pub returns : goal.returns
returns g c = followed (texts c.args.words.now) (given_of c.in_ok-given.given) _ _ _ _ _ c.in_ok-given.ensures.given c.follow_plan.ensures
