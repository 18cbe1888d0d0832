-- the zeros so far and those to come are all of them, and there is room for these
use Rattle.std.proofs.Common.{◌≡◌, ◌+◌, ◌≤◌, ◌++◌, length, drop, vec_capacity}
use Rattle.module_ast.specs.Binary.{locals_of}
use Rattle.module_ast.specs.Validation.{declared_locals}
use Rattle.wasm_sem.specs.Execution.{zeros}
use Rattle.run_stack.proofs.stack.push_zeros.Given as goal

abbrev pub invariant-loop-group : goal.invariant-loop-group
invariant-loop-group l = record {
  told : l.values.items ++ zeros (declared_locals (drop l.group-index l.groups)) ≡ l.fn.values.items ++ zeros (declared_locals l.groups);
  room : length l.values.items + locals_of (drop l.group-index l.groups) ≤ vec_capacity l.values;
  capacity : vec_capacity l.fn.values ≤ vec_capacity l.values;
}
