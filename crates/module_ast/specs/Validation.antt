-- 3 Validation: which code is typed, which modules are valid, and the limits.
pub mod Shapes
pub mod Typing
pub mod Validity
pub mod Limits
pub use Rattle.module_ast.specs.Validation.Limits.{IsWhole, IsComplete, deepest, longest_file, longest_narrow_file, narrow, wide}
pub use Rattle.module_ast.specs.Validation.Shapes.{load_type, load_width, store_type, store_width}
pub use Rattle.module_ast.specs.Validation.Typing.{Context, push, TypesCode, inside, block_type, TypesPlain, Turns, IsAligned}
pub use Rattle.module_ast.specs.Validation.Validity.{KeepsRules, body_context, declared_locals, TypesBody, HasBodyMarks, function_types, IsValid, memory_pages, memory_limits, IsOrdered, HasPagesWithin, import_types, init_constant, init_type, element_funcs, IsConstant, HasInitType, start_index, start_type, func_type, IsFirstBroken, IsFirstInvalid, ValidityRule, number_of, one_table, one_memory, table_limits, init_global, export_indices, export_names, element_tables, element_offsets, segment_memories, segment_offsets, ReadsImported, IsOffset, count_of, Keeps}
