use Rattle.std.proofs.Common.{ap}
use Rattle.code_decode.specs.Classes.{opening_shape}
use Rattle.code_decode.proofs.Faults.{on_err}
use Rattle.code_decode.proofs.Operands.{opening_bad, block_ok, loop_ok, if_ok}
use Rattle.code_decode.proofs.token.opens.Goals as goal

pub returns-in_err-ty-clause-bad : goal.returns-in_err-ty-clause-bad
returns-in_err-ty-clause-bad c = on_err _ (opening_bad c.args.opening _ c.in_err-ty.ensures.bad)

pub returns-in-Block-clause-ok : goal.returns-in-Block-clause-ok
returns-in-Block-clause-ok c = let l = c.in_ok-ty.ensures.ok in block_ok _ (ap opening_shape c.in-Block.is) _ _ _ _ l.0 l.1 l.2 l.3

pub returns-in-Loop-clause-ok : goal.returns-in-Loop-clause-ok
returns-in-Loop-clause-ok c = let l = c.in_ok-ty.ensures.ok in loop_ok _ (ap opening_shape c.in-Loop.is) _ _ _ _ l.0 l.1 l.2 l.3

pub returns-in-If-clause-ok : goal.returns-in-If-clause-ok
returns-in-If-clause-ok c = let l = c.in_ok-ty.ensures.ok in if_ok _ (ap opening_shape c.in-If.is) _ _ _ _ l.0 l.1 l.2 l.3
