-- 2 Structure: code as a tree, how its lists are seen, and index spaces.
pub mod Trees
pub mod Seen
pub mod Falls
pub mod Spaces
pub mod Start
pub mod Plains
pub use Rattle.module_ast.specs.Structure.Plains.{IsPlainInstr, goes_on_by, plain_of, plains, instr_of}
pub use Rattle.module_ast.specs.Structure.Seen.{before, code_of, onto, onto_push}
pub use Rattle.module_ast.specs.Structure.Spaces.{funcs_of, tables_of, memories_of, globals_of, imported_funcs, imported_globals, imported_memories, imported_tables, global_types, imported_counts, space_counts, SpaceTable, spaces_of}
pub use Rattle.module_ast.specs.Structure.Start.{is_start}
pub use Rattle.module_ast.specs.Structure.Trees.{Tree, done, plain, block, loop, if_then, if_else, Plain, unreachable, br_table, br_if, br, return_, call_indirect, call, drop_, select, local_get, local_set, local_tee, global_get, global_set, load, store, memory_size, memory_grow, weight, nop, i32_const, i64_const, num}
