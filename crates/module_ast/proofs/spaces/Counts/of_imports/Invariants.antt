use Rattle.std.proofs.Common.{◌≡◌, ◌+◌, ◌≤◌, drop, length}
use Rattle.module_ast.specs.Structure.{imported_funcs, imported_tables, imported_memories, imported_globals}
use Rattle.module_ast.proofs.spaces.Counts.of_imports.Given as goal

abbrev pub invariant-loop-import : goal.invariant-loop-import
invariant-loop-import l =
    let left = drop l.import-index l.imports in
    record {
      funcs : l.funcs + length (imported_funcs left) ≡ length (imported_funcs l.imports);
      tables : l.tables + length (imported_tables left) ≡ length (imported_tables l.imports);
      memories : l.memories + length (imported_memories left) ≡ length (imported_memories l.imports);
      globals : l.globals + length (imported_globals left) ≡ length (imported_globals l.imports);
      few : l.funcs + l.tables + l.memories + l.globals ≤ l.import-index;
    }
