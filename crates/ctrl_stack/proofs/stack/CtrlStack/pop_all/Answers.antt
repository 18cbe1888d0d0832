use Rattle.std.proofs.Common.{◌∙◌, arith}
use Rattle.ctrl_stack.proofs.Pops.{pop_all_step}
use Rattle.ctrl_stack.proofs.stack.CtrlStack.pop_all.Goals as goal

pub returns-in_err-_ty : goal.returns-in_err-_ty
returns-in_err-_ty c =
    rw c.from_residual.ensures
    (c.loop-left.invariant.so_far
    ∙ pop_all_step c.args.types.now c.loop-left.left _ _ _ (omega arith) c.loop-left.invariant.within c.in_err-_ty.ensures)

pub loop-left-preserved : goal.loop-left-preserved
loop-left-preserved c = record {
  within = omega arith;
  height = omega (arith, c.in_ok-_ty.ensures.0, c.loop-left.invariant.height);
  so_far = c.loop-left.invariant.so_far
      ∙ pop_all_step c.args.types.now c.loop-left.left _ _ _ (omega arith) c.loop-left.invariant.within c.in_ok-_ty.ensures.1;
}
