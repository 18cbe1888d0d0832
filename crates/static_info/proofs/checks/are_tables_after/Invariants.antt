use Rattle.std.proofs.Common.{negsuc}
use Rattle.static_info.proofs.Rising.{TablesLeft}
use Rattle.static_info.proofs.checks.are_tables_after.Given as goal

abbrev pub invariant-loop-table : goal.invariant-loop-table
invariant-loop-table l = TablesLeft (negsuc 0) l.tables l.last l.table-index
