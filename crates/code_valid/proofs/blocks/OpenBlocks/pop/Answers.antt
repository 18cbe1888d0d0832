use Rattle.std.proofs.lemmas.Result.{err_from_is_err_and}
use Rattle.code_valid.proofs.Moves.{by_mismatch}
use Rattle.code_valid.proofs.Parted.{popped, not_popped}
use Rattle.code_valid.proofs.blocks.OpenBlocks.pop.Goals as goal

pub returns-in_err-pop : goal.returns-in_err-pop
returns-in_err-pop c =
    let p = err_from_is_err_and c.from_residual.result c.from_residual.ensures.1 in
    let m = c.in_err-pop.ensures.mismatch in
    rw (p.1, p.2, ← c.self.view_is) (by_mismatch c.in_err-pop.field-0.0 m.0, not_popped c.self.inside.stack c.self.invariant c.args.expected m.1)

pub returns : goal.returns
returns c =
    let w = popped c.self.inside.stack c.self.invariant c.args.expected c.in_ok-pop.field-0 c.pop.new.self c.in_ok-pop.ensures.ok in
    rw (← c.self.view_is) (w.0, w.1, w.2)
