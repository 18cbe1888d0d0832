use Rattle.std.proofs.Common.{◌≡◌, ◌+◌, length, drop, All}
use Rattle.module_ast.specs.Binary.{FitsRange, items_bytes, table_bytes}
use Rattle.wasm_encode.proofs.tables.tables_length.Given as goal

abbrev pub invariant-loop-table : goal.invariant-loop-table
invariant-loop-table l = record {
  whole : l.total + length (items_bytes table_bytes (drop l.table-index l.tables)) ≡ l.initial.total + length (items_bytes table_bytes l.tables);
  fit : All FitsRange (drop l.table-index l.tables) → All FitsRange l.tables;
}
