-- The command was begun, or all is as before.
use Rattle.std.proofs.Common.{sym, subst}
use Rattle.command_line.specs.Lines.{texts}
use Rattle.wasabi_app.specs.Ended.{IsEnded}
use Rattle.wasabi_app.proofs.Ended.{begun_or_not}
use Rattle.wasabi_app.proofs.fresh.run_command.Goals as goal

pub returns : goal.returns
returns g c =
    let words = texts c.args.words.now in
    subst
    (IsEnded words (g.S.Shelf.seen c.args.shelf.now) (g.S.Shelf.seen c.run_with_analyses.new.shelf) (g.K.Sink.seen c.args.out.now)
    (g.K.Sink.seen c.run_with_analyses.new.out))
    (sym c.unwrap_or.ensures)
    (begun_or_not words g.S.Shelf.seen g.K.Sink.seen c.args.shelf.now c.run_with_analyses.new.shelf c.args.out.now c.run_with_analyses.new.out
    c.run_with_analyses.result c.run_with_analyses.ensures.ended c.run_with_analyses.ensures.undone)
