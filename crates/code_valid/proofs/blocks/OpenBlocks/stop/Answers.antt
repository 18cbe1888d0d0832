use Rattle.code_valid.proofs.Moves.{stopped}
use Rattle.code_valid.proofs.blocks.OpenBlocks.stop.Goals as goal

pub returns : goal.returns
returns c =
    let h = c.in_ok-pop_all.ensures in
    stopped {A = Unit {0}} tt c.args.takes.now c.args.self.now c.pop_all.new.self c.mark_dead.new.self h.0 h.1 h.2 c.mark_dead.ensures
