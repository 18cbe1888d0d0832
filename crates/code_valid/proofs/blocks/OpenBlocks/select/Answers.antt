use Rattle.code_valid.proofs.Moves.{selected}
use Rattle.code_valid.proofs.blocks.OpenBlocks.select.Goals as goal

pub returns-clause-moves : goal.returns-clause-moves
returns-clause-moves c =
    let h = c.in_ok-pop_i32.ensures in
    let i = c.in_ok-first.ensures in
    let j = c.in_ok-second.ensures in
    selected c.args.self.now c.pop_i32.new.self c.pop.new.self c.pop-2.new.self c.push.new.self h.0 i.0 j.0
    c.in_ok-first.first c.in_ok-second.second h.1 h.2 i.1 i.2 j.1 j.2 c.in_ok-push.ensures
