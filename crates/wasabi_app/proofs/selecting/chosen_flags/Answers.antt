-- A piece that is no function, or the flags.
use Rattle.std.proofs.Common.{sym}
use Rattle.wasabi_app.specs.Words.{given_of}
use Rattle.wasabi_app.proofs.Chosen.{piece_unknown, unselected_no_memory}
use Rattle.wasabi_app.proofs.selecting.chosen_flags.Goals as goal

pub returns-in-Some-clause-refused : goal.returns-in-Some-clause-refused
returns-in-Some-clause-refused c =
    piece_unknown (given_of c.args.given.now) c.args.m.now c.args.names.now c.in-Some.piece.now c.refused.result (sym c.in-Some.ensures)
    (c.refused.ensures _ c.no_function_line.ensures)

pub returns-in-Err-clause-refused : goal.returns-in-Err-clause-refused
returns-in-Err-clause-refused c = unselected_no_memory (given_of c.args.given.now) c.args.m.now c.args.names.now
