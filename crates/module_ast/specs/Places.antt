-- Places in a body: each has a position, and live ones have marks.
pub mod Positions
pub mod Marks
pub mod LiveMarks
pub use Rattle.module_ast.specs.Places.LiveMarks.{HasMarks, marks_at}
pub use Rattle.module_ast.specs.Places.Marks.{Mark, operands_behind, starts_of, operands_under, operands_past, plain_marks, code_marks, code_height, marks, mark_at, func_type_or, type_of_callee, indirect_type, type_of_local, type_of_global, height, type_of_block, type_by, type_or, global_type_or, turned_operands}
pub use Rattle.module_ast.specs.Places.Positions.{goes_on, code_size, ends_live, code_nesting, Scope, code_places, at, acts, opens, alternates, closes, then_scope, else_scope, Place, places, place_at, function_scope, block_scope, loop_scope, if_scope, target_of, left_by, enters, TargetOf, EndsOf, Opcode}
