use Rattle.std.proofs.lemmas.Result.{err_from_is_err_and}
use Rattle.code_valid.proofs.Moves.{by_mismatch, refused}
use Rattle.code_valid.proofs.Parted.{closed, not_closed}
use Rattle.code_valid.proofs.blocks.OpenBlocks.end.Goals as goal

pub returns-in_err-pop_block : goal.returns-in_err-pop_block
returns-in_err-pop_block c =
    let p = err_from_is_err_and c.from_residual.result c.from_residual.ensures.1 in
    let m = c.in_err-pop_block.ensures.mismatch in
    rw (p.1, p.2, ← c.self.view_is) (refused _ _ (by_mismatch c.in_err-pop_block.field-0.0 m.0, not_closed c.self.inside.stack c.self.invariant m.1))

pub returns : goal.returns
returns c = rw (← c.self.view_is) ((closed c.self.inside.stack c.self.invariant c.in_ok-pop_block.field-0 c.pop_block.new.self c.in_ok-pop_block.ensures.ok).0)
