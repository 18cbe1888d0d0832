use Rattle.std.proofs.Common.{◌≡◌, ◌+◌, ◌*◌, ◌≤◌, length, drop, All}
use Rattle.leb_binary.specs.Shortest.{unsigned_bytes}
use Rattle.module_ast.specs.Binary.{items_bytes, FitsIndex}
use Rattle.wasm_encode.proofs.code_length.table_branch_length.Given as goal

abbrev pub invariant-loop-label : goal.invariant-loop-label
invariant-loop-label l = record {
  whole : l.total + length (items_bytes unsigned_bytes (drop l.label-index l.labels)) ≡ l.initial.total + length (items_bytes unsigned_bytes l.labels);
  bound : l.total ≤ 10 + 5 * l.label-index;
  fit : All FitsIndex (drop l.label-index l.labels) → All FitsIndex l.labels;
}
