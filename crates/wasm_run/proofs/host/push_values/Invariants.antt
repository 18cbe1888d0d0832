use Rattle.std.proofs.Common.{◌≡◌, ◌+◌, ◌≤◌, drop, length}
use Rattle.module_ast.specs.Validation.{push}
use Rattle.wasm_sem.specs.Execution.{values_of}
use Rattle.wasm_run.proofs.host.push_values.Given as goal

-- the results so far are on top, the others come above them, and there is room for these
abbrev pub invariant-loop-place : goal.invariant-loop-place
invariant-loop-place l = record {
  told : push (values_of (drop l.place l.types) (drop l.place l.numbers)) l.stack.values ≡ push (values_of l.types l.numbers) l.fn.stack.values;
  same : l.stack ≡ record l.fn.stack { values = l.stack.values };
  room : length l.stack.values + length (drop l.place l.types) ≤ l.stack.value_room;
}
