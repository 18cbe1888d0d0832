use Rattle.std.proofs.Common.{◌≡◌, ◌++◌, drop}
use Rattle.module_ast.specs.Structure.{imported_memories, memories_of}
use Rattle.run_store.proofs.opening.memory_range.Given as goal

-- none is imported so far
abbrev pub invariant-loop-import : goal.invariant-loop-import
invariant-loop-import l = imported_memories (drop l.import-index l.import-items) ++ l.m.memories ≡ memories_of l.m
