-- 5 The binary format, the canonical bytes, and which modules of the format are the program's.
pub mod Rows
pub mod Opcodes
pub mod Grammar
pub mod Profile
pub mod Canonical
pub mod OpNames
pub mod Decoding
pub mod Tokens
pub mod Shortest
pub mod Sizes
pub use Rattle.module_ast.specs.Binary.Canonical.{items_bytes, vec_bytes, sized_bytes, vec_section, start_bytes, module_bytes, func_type_bytes, import_bytes, table_bytes, limits_bytes, global_bytes, export_bytes, element_bytes, body_bytes, segment_bytes, val_type_bytes, block_type_bytes, mem_arg_bytes, plain_bytes, code_bytes, expr_bytes, without_customs, group_bytes, mutability_bytes, global_type_bytes, item_bytes, kind_byte, section_bytes, val_type_byte}
pub use Rattle.module_ast.specs.Binary.Decoding.{Gram, body_floats, FileFloats, FileExceeds, IsNoBody, GramBody, BodyFloats, BodyExceeds}
pub use Rattle.module_ast.specs.Binary.Grammar.{header, AreItems, IsSegment, IsContent, Section, IsSection, with_section, with_sections, module_of, empty_module, custom_section, type_section, import_section, function_section, table_section, memory_section, global_section, export_section, start_section, element_section, code_section, data_section, IsU32, IsValType, IsBlockType, IsMemArg, IsPlain, IsCode, IsExpr, IsOp, IsVec, BlockTypeNode, NumberType, IsFloating, IsFloatOp, IsFloatAccess, IsBlock, IsMemoryType, IsTableType, IsItem, IsImport, IsGlobal, IsExport, IsElement, IsSized, IsBody, id_of, AreOrdered, IsFuncType, IsModule, Both, IsMutability, IsGlobalType, IsExportKind, IsGroup, local_count, IsFault, integer, CodeNode, f32, f64, FuncTypeNode, AreLimits, GlobalTypeNode, ItemNode, func_item, table_item, memory_item, global_item, ImportNode, GlobalNode, ExportNode, ElementNode, GroupNode, BodyNode, SegmentNode, Kind, Content, IsCustom, HasSections, HasBodies, HasNext, FailsInSection, empty, value, indexed, floating, ModuleNode}
pub use Rattle.module_ast.specs.Binary.OpNames.{load_name, store_name}
pub use Rattle.module_ast.specs.Binary.Opcodes.{load_of_opcode, store_of_opcode, load_ops, store_ops, load_opcode, store_opcode}
pub use Rattle.module_ast.specs.Binary.Profile.{locals_of, segment_node, body_node, tree_of, IsWithin, code_node, block_type_node, item_node, import_node, global_node, export_node, element_node, group_node, limited_counts, func_type_node, some_in, section_floats, AreWithin, global_type_node, is_floating, block_floats, code_floats, item_floats, bound_of, IsFirstAbove, most_values, order_of, IsFirstExceeded, FloatsFirstIn}
pub use Rattle.module_ast.specs.Binary.Shortest.{CanonicalBytesAreShortest}
pub use Rattle.module_ast.specs.Binary.Sizes.{FitsCode, Fits, FitsBody, FitsElement, FitsExport, FitsGlobal, FitsImport, FitsIndex, FitsRange, FitsSegment, FitsOption, FitsBlockType, FitsMemArg, FitsPlain, FitsItem}
pub use Rattle.module_ast.specs.Binary.Tokens.{Token, IsToken, plain_t, float_t, block_t, loop_t, if_t, else_t, end_t, Shape, nothing, bare, index, table, indirect, zero_byte, arg, small, wide, float_bare, float_arg, float_four, float_eight, block_s, loop_s, if_s, else_s, end_s, integer_shape, Spells, is_float_op, is_float_access, listed, listed_shape}
unfoldable pub use Rattle.module_ast.specs.Binary.Tokens.{shape_at}
