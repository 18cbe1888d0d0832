-- The counts of a module are those of its imports and of what it defines.
use Rattle.std.proofs.Common.{◌≡◌, ◌+◌, List, [], ◌∷◌, length, length-append, arith}
use Rattle.module_ast.specs.declared.module.GlobalDef.{GlobalDef}
use Rattle.module_ast.specs.declared.module.Module.{Module}
use Rattle.module_ast.specs.declared.spaces.Counts.{Counts}
use Rattle.module_ast.specs.Structure.{imported_funcs, imported_tables, imported_memories, imported_globals, global_types, imported_counts, space_counts}

pub length-global_types : (gs : List GlobalDef) → length (global_types gs) ≡ length gs
length-global_types [] = omega arith
length-global_types (g ∷ gs) = omega (arith, length-global_types gs)

abbrev with_defined : Counts → Module → Counts
with_defined c m = record {
  funcs = c.funcs + length m.funcs;
  tables = c.tables + length m.tables;
  memories = c.memories + length m.memories;
  globals = c.globals + length m.globals;
}

pub defined_counted : (m : Module) → with_defined (imported_counts m.imports) m ≡ space_counts m
defined_counted m =
    let f = length-append (imported_funcs m.imports) m.funcs in
    let t = length-append (imported_tables m.imports) m.tables in
    let n = length-append (imported_memories m.imports) m.memories in
    let g = length-append (imported_globals m.imports) (global_types m.globals) in
    let d = length-global_types m.globals in
    cc
