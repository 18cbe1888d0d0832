-- How many bytes a module has is the sum over its parts.
use Rattle.std.proofs.Common.{◌≡◌, ℕ, List, ◌+◌, ◌++◌, length, arith}
use Rattle.std.proofs.Math.ListN.{length-append}
use Rattle.module_ast.specs.declared.module.Module.{Module}
use Rattle.module_ast.specs.Binary.{header, sized_bytes, vec_section, func_type_bytes, import_bytes, table_bytes, limits_bytes, global_bytes, export_bytes, start_bytes, element_bytes, body_bytes, segment_bytes, module_bytes}
use Rattle.leb_binary.specs.Shortest.{unsigned_bytes}

parts_total : (a b c d e f g h i j k l : List ℕ) → length (a ++ b ++ c ++ d ++ e ++ f ++ g ++ h ++ i ++ j ++ k ++ l)
    ≡ length a + length b + length c + length d + length e + length f + length g + length h + length i + length j + length k + length l
parts_total a b c d e f g h i j k l = omega (arith, length-append {A = ℕ})

pub module_total : (m : Module) → length (module_bytes m)
    ≡ 8 + length (vec_section 1 func_type_bytes m.types) + length (vec_section 2 import_bytes m.imports)
    + length (vec_section 3 unsigned_bytes m.funcs) + length (vec_section 4 table_bytes m.tables)
    + length (vec_section 5 limits_bytes m.memories) + length (vec_section 6 global_bytes m.globals)
    + length (vec_section 7 export_bytes m.exports) + length (start_bytes m.start)
    + length (vec_section 9 element_bytes m.elements) + length (vec_section 10 (λ b. sized_bytes (body_bytes b)) m.bodies)
    + length (vec_section 11 segment_bytes m.segments)
module_total m =
    parts_total header (vec_section 1 func_type_bytes m.types) (vec_section 2 import_bytes m.imports) (vec_section 3 unsigned_bytes m.funcs)
    (vec_section 4 table_bytes m.tables) (vec_section 5 limits_bytes m.memories) (vec_section 6 global_bytes m.globals)
    (vec_section 7 export_bytes m.exports) (start_bytes m.start) (vec_section 9 element_bytes m.elements)
    (vec_section 10 (λ b. sized_bytes (body_bytes b)) m.bodies) (vec_section 11 segment_bytes m.segments)
