-- The names of a small module, in an output with 15 hooks, and spelled.
use Rattle.std.proofs.Common.{◌≡◌, ℕ, [], ◌∷◌, Some, None, true, false, refl}
use Rattle.std.specs.Prelude.{codes}
use Rattle.leb_binary.specs.Texts.{Text}
use Rattle.module_ast.specs.Ascii.{ascii_text}
use Rattle.index_remap.specs.declared.Remap.{Remap}
use Rattle.name_map.specs.declared.Names.{Names}
use Rattle.name_map.specs.NameMaps.{rises_from}
use Rattle.name_map.specs.Names.{no_names, known_names, map_names, unmap_names, name_at}
use Rattle.name_map.specs.Sections.{chunk, content_of}
use Rattle.name_map.specs.Written.{name_section_bytes}

abbrev total : Text
total = ascii_text (codes "total") refl

-- the names of a module in which one function has a name
abbrev one_function : ℕ → Names
one_function f = record { «module» = None; functions = record { index = f; name = total } ∷ []; locals = [] }

abbrev hooks : Remap
hooks = record { imports = 1; added = 15 }

function_moves : map_names hooks (one_function 1) ≡ one_function 16
function_moves = refl

function_comes_back : unmap_names hooks (one_function 16) ≡ one_function 1
function_comes_back = refl

import_stays : map_names hooks (one_function 0) ≡ one_function 0
import_stays = refl

hook_is_left_out : unmap_names hooks (one_function 15) ≡ no_names
hook_is_left_out = refl

function_has_its_name : name_at 16 (map_names hooks (one_function 1)).functions ≡ Some total
function_has_its_name = refl

hook_has_no_name : name_at 1 (map_names hooks (one_function 1)).functions ≡ None
hook_has_no_name = refl

function_is_not_there : known_names 2 (one_function 9) ≡ no_names
function_is_not_there = refl

last_function_is_there : known_names 2 (one_function 1) ≡ one_function 1
last_function_is_there = refl

section_is_spelled : name_section_bytes (one_function 16)
    ≡ 0x00 ∷ 0x0F ∷ 0x04 ∷ 0x6E ∷ 0x61 ∷ 0x6D ∷ 0x65 ∷ 0x01 ∷ 0x08 ∷ 0x01 ∷ 0x10 ∷ 0x05 ∷ 0x74 ∷ 0x6F ∷ 0x74 ∷ 0x61 ∷ 0x6C ∷ []
section_is_spelled = refl

nothing_is_spelled : name_section_bytes no_names ≡ []
nothing_is_spelled = refl

neighbours_rise : rises_from 0 (0 ∷ 1 ∷ 5 ∷ []) ≡ true
neighbours_rise = refl

equals_do_not_rise : rises_from 0 (0 ∷ 1 ∷ 1 ∷ []) ≡ false
equals_do_not_rise = refl

first_subsection_counts : content_of 1 (chunk 2 [] ∷ chunk 1 (0 ∷ []) ∷ chunk 1 (1 ∷ []) ∷ []) ≡ Some (0 ∷ [])
first_subsection_counts = refl
