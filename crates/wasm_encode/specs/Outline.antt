-- The bytes of a module in three parts: the code section, and what is before and behind it.
use Rattle.std.specs.Prelude.{ℕ, zero, suc, ◌+◌, List, [], ◌∷◌, ◌++◌, length}
use Rattle.module_ast.specs.declared.module.Body.{Body}
use Rattle.module_ast.specs.declared.module.Module.{Module}
use Rattle.module_ast.specs.Binary.{header, sized_bytes, items_bytes, vec_section, func_type_bytes, import_bytes, table_bytes, limits_bytes, global_bytes, export_bytes, start_bytes, element_bytes, body_bytes, segment_bytes}
use Rattle.leb_binary.specs.Shortest.{unsigned_bytes}

-- the header and the sections before the code section
abbrev pub front_bytes : Module → List ℕ
front_bytes m =
    header
    ++ vec_section 1 func_type_bytes m.types
    ++ vec_section 2 import_bytes m.imports
    ++ vec_section 3 unsigned_bytes m.funcs
    ++ vec_section 4 table_bytes m.tables
    ++ vec_section 5 limits_bytes m.memories
    ++ vec_section 6 global_bytes m.globals
    ++ vec_section 7 export_bytes m.exports
    ++ start_bytes m.start
    ++ vec_section 9 element_bytes m.elements

-- the section behind the code section
abbrev pub back_bytes : Module → List ℕ
back_bytes m = vec_section 11 segment_bytes m.segments

-- the entry of a body, which is its size and the body; and all entries of a module
abbrev pub entry_bytes : Body → List ℕ
entry_bytes b = sized_bytes (body_bytes b)

abbrev pub entries_bytes : List Body → List ℕ
entries_bytes bodies = items_bytes entry_bytes bodies

-- what is before `count` entries of `size` bytes together: nothing if there are no entries
abbrev pub code_head : (count size : ℕ) → List ℕ
code_head zero size = []
code_head (suc n) size =
    let count = unsigned_bytes (suc n) in
    10 ∷ (unsigned_bytes (length count + size) ++ count)
