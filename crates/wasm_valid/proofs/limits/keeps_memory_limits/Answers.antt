use Rattle.module_ast.specs.Validation.{IsOrdered}
use Rattle.wasm_valid.proofs.Each.{memories_tests}
use Rattle.wasm_valid.proofs.limits.keeps_memory_limits.Goals as goal

pub returns-then-imports_ordered_memories : goal.returns-then-imports_ordered_memories
returns-then-imports_ordered_memories c =
    let imported = rw c.as_slice.ensures at c.imports_ordered_memories.ensures in
    let defined = rw c.as_slice-then-imports_ordered_memories.ensures at c.are_ordered.ensures in
    (memories_tests IsOrdered c.args.m.now).passes c.imports_ordered_memories.result c.are_ordered.result c.if-imports_ordered_memories.true imported defined

pub returns-else-imports_ordered_memories : goal.returns-else-imports_ordered_memories
returns-else-imports_ordered_memories c =
    let imported = rw c.as_slice.ensures at c.imports_ordered_memories.ensures in
    (memories_tests IsOrdered c.args.m.now).fails c.imports_ordered_memories.result c.if-imports_ordered_memories.false imported
