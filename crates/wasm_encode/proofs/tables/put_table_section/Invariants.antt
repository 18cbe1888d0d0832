use Rattle.std.proofs.Common.{◌≡◌, ◌++◌, drop}
use Rattle.module_ast.specs.Binary.{items_bytes, vec_bytes, table_bytes}
use Rattle.wasm_encode.proofs.tables.put_table_section.Given as goal

abbrev pub invariant-loop-table : goal.invariant-loop-table
invariant-loop-table l =
    l.content.items ++ items_bytes table_bytes (drop l.table-index l.tables) ≡ vec_bytes table_bytes l.tables
