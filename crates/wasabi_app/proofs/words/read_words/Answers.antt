-- The words have a line that says something, or are refused.
use Rattle.std.proofs.Common.{ap, inr, sym, Some, None, Err}
use Rattle.command_line.specs.Lines.{line_of, texts}
use Rattle.wasabi_app.specs.Words.{given_of}
use Rattle.wasabi_app.proofs.WordLines.{given_is, not_given}
use Rattle.wasabi_app.proofs.words.read_words.Goals as goal

pub returns-in-Some-clause-given : goal.returns-in-Some-clause-given
returns-in-Some-clause-given c =
    given_is (texts c.args.words.now) (line_of c.in-Ok.line) (Some (given_of c.in-Some.given)) c.in-Ok.ensures.line (sym c.in-Some.ensures)

pub returns-in-None-clause-refused : goal.returns-in-None-clause-refused
returns-in-None-clause-refused c =
    inr (given_is (texts c.args.words.now) (line_of c.in-Ok.line) None c.in-Ok.ensures.line (sym c.in-None.ensures), c.bad_words.ensures)

pub returns-in-Err-Refused-clause-refused : goal.returns-in-Err-Refused-clause-refused
returns-in-Err-Refused-clause-refused c =
    inr (not_given (texts c.args.words.now) (c.in-Err-Refused.ensures.refused (ap Err c.in-Err-Refused.field-0-is)), c.bad_words-in-Err-Refused.ensures)
