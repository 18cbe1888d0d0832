use Rattle.std.proofs.Common.{◌≡◌, ◌≤◌, length, take}
use Rattle.ctrl_stack.specs.Stack.{pop_all, lowest_operands}
use Rattle.ctrl_stack.proofs.stack.CtrlStack.pop_all.Given as goal

abbrev pub invariant-loop-left : goal.invariant-loop-left
invariant-loop-left l = record {
  within : l.left ≤ length l.types;
  height : l.height ≤ length l.self.operands;
  so_far : pop_all l.types l.self ≡ pop_all (take l.left l.types) (lowest_operands l.height l.self);
}

abbrev pub decreases-loop-left : goal.decreases-loop-left
decreases-loop-left l = l.left
