use Rattle.module_ast.specs.Validation.{HasPagesWithin}
use Rattle.wasm_valid.proofs.Each.{memories_tests}
use Rattle.wasm_valid.proofs.limits.keeps_memory_pages.Goals as goal

pub returns-then-imports_few_pages : goal.returns-then-imports_few_pages
returns-then-imports_few_pages c =
    let imported = rw c.as_slice.ensures at c.imports_few_pages.ensures in
    let defined = rw c.as_slice-then-imports_few_pages.ensures at c.have_few_pages.ensures in
    (memories_tests (HasPagesWithin 65536) c.args.m.now).passes c.imports_few_pages.result c.have_few_pages.result c.if-imports_few_pages.true imported defined

pub returns-else-imports_few_pages : goal.returns-else-imports_few_pages
returns-else-imports_few_pages c =
    let imported = rw c.as_slice.ensures at c.imports_few_pages.ensures in
    (memories_tests (HasPagesWithin 65536) c.args.m.now).fails c.imports_few_pages.result c.if-imports_few_pages.false imported
