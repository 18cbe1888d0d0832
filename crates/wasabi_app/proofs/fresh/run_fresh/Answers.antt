-- The analyses are fresh.
use Rattle.command_line.specs.Lines.{texts}
use Rattle.wasabi_app.proofs.Ended.{ended}
use Rattle.wasabi_app.proofs.fresh.run_fresh.Goals as goal

pub returns : goal.returns
returns g c =
    ended (texts c.args.words.now) _ _ _ _ _ _ _ c.requires.fresh c.run_app.ensures.ended
