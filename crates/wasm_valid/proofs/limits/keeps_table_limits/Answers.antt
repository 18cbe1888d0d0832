use Rattle.module_ast.specs.Validation.{IsOrdered}
use Rattle.wasm_valid.proofs.Each.{tables_tests}
use Rattle.wasm_valid.proofs.limits.keeps_table_limits.Goals as goal

pub returns-then-imports_ordered_tables : goal.returns-then-imports_ordered_tables
returns-then-imports_ordered_tables c =
    let imported = rw c.as_slice.ensures at c.imports_ordered_tables.ensures in
    let defined = rw c.as_slice-then-imports_ordered_tables.ensures at c.are_ordered.ensures in
    (tables_tests IsOrdered c.args.m.now).passes c.imports_ordered_tables.result c.are_ordered.result c.if-imports_ordered_tables.true imported defined

pub returns-else-imports_ordered_tables : goal.returns-else-imports_ordered_tables
returns-else-imports_ordered_tables c =
    let imported = rw c.as_slice.ensures at c.imports_ordered_tables.ensures in
    (tables_tests IsOrdered c.args.m.now).fails c.imports_ordered_tables.result c.if-imports_ordered_tables.false imported
