use Rattle.std.proofs.Common.{◌≡◌, ◌++◌, drop}
use Rattle.module_ast.specs.Structure.{imported_tables, tables_of}
use Rattle.run_store.proofs.opening.table_range.Given as goal

-- none is imported so far
abbrev pub invariant-loop-import : goal.invariant-loop-import
invariant-loop-import l = imported_tables (drop l.import-index l.import-items) ++ l.m.tables ≡ tables_of l.m
