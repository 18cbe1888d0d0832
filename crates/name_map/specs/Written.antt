-- Appendix, Name Section: the bytes of a `name` section, with subsections by rising id, numbers in their shortest
-- spelling, and nothing empty.
use Rattle.std.specs.Prelude.{ℕ, List, [], ◌∷◌, ◌++◌, Option, Some, None, codes}
use Rattle.leb_binary.specs.Texts.{Text}
use Rattle.leb_binary.specs.Shortest.{unsigned_bytes}
use Rattle.module_ast.specs.Binary.{vec_bytes, sized_bytes, section_bytes, vec_section}
use Rattle.name_map.specs.declared.Named.{Named}
use Rattle.name_map.specs.declared.Locals.{Locals}
use Rattle.name_map.specs.declared.Names.{Names}

abbrev pub named_bytes : Named → List ℕ
named_bytes n = unsigned_bytes n.index ++ sized_bytes n.name.bytes

abbrev pub locals_bytes : Locals → List ℕ
locals_bytes l = unsigned_bytes l.func ++ vec_bytes named_bytes l.names

abbrev pub module_name_bytes : Option Text → List ℕ
module_name_bytes None = []
module_name_bytes (Some name) = section_bytes 0 (sized_bytes name.bytes)

-- a subsection is spelled as a section is
abbrev pub names_bytes : Names → List ℕ
names_bytes names = module_name_bytes names.module ++ vec_section 1 named_bytes names.functions ++ vec_section 2 locals_bytes names.locals

-- the name of the section, and its subsections
abbrev pub content_bytes : Names → List ℕ
content_bytes names = sized_bytes (codes "name") ++ names_bytes names

-- the custom section of these subsections; no section if there are no subsections
abbrev pub custom_section_of : List ℕ → List ℕ
custom_section_of [] = []
custom_section_of (b ∷ bs) = section_bytes 0 (sized_bytes (codes "name") ++ b ∷ bs)

abbrev pub name_section_bytes : Names → List ℕ
name_section_bytes names = custom_section_of (names_bytes names)
