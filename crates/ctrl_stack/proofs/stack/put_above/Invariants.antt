use Rattle.std.proofs.Common.{◌≡◌, ◌-◌, ◌+◌, ◌≤◌, ◌++◌, length, take, map, Some, vec_len}
use Rattle.std.specs.Prelude.{vec_capacity}
use Rattle.ctrl_stack.proofs.stack.put_above.Given as goal

abbrev pub invariant-loop-ty : goal.invariant-loop-ty
invariant-loop-ty l = record {
  room : vec_len l.operands + (length l.types - l.ty-index) ≤ vec_capacity l.operands;
  so_far : l.operands.items ≡ take l.height l.fn.operands.items ++ map Some (take l.ty-index l.types);
}
