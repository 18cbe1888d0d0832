-- Laws of the names that files carry.
use Rattle.std.specs.Prelude.{◌≡◌, ◌≢◌, ℕ, ◌+◌, ◌^◌, ◌<◌, ◌≤◌, List, [], ◌∷◌, ◌++◌, length, map, None, All, codes}
use Rattle.leb_binary.specs.Texts.{Text}
use Rattle.module_ast.specs.declared.module.Module.{Module}
use Rattle.module_ast.specs.Binary.{Gram, AreItems, header}
use Rattle.index_remap.specs.declared.Remap.{Remap}
use Rattle.index_remap.specs.Remap.{map_index, unmap_index}
use Rattle.name_map.specs.declared.Names.{Names}
use Rattle.name_map.specs.NameMaps.{Rises}
use Rattle.name_map.specs.Names.{no_names, map_names, unmap_names, name_at, locals_at}
use Rattle.name_map.specs.Sections.{Chunk, IsChunk, IsFile, IsFirstNameSection, AreNames}
use Rattle.name_map.specs.Written.{content_bytes, name_section_bytes}

-- the file of a module is a header and sections
abbrev pub ModulesAreFiles : Type 0
ModulesAreFiles = (bytes : List ℕ) (m : Module) → Gram bytes m → IsFile bytes

-- a file carries one value of names
abbrev pub NamesAreOne : Type 0
NamesAreOne = (bytes : List ℕ) (functions : ℕ) (m n : Names) → AreNames bytes functions m → AreNames bytes functions n → m ≡ n

-- what was mapped is taken back
abbrev pub NamesComeBack : Type 0
NamesComeBack = (remap : Remap) (names : Names) → unmap_names remap (map_names remap names) ≡ names

-- names that a file with `count` functions can carry: by rising index, and of functions that there are
pub record AreProper (count : ℕ) (names : Names) : Type 0 where
  pub order : Rises (map (λ n. n.index) names.functions)
  pub below : All (λ n. n.index < count) names.functions
  pub owner_order : Rises (map (λ l. l.func) names.locals)
  pub owners_below : All (λ l. l.func < count) names.locals
  pub inner : All (λ l. All (λ n. n.index < 2 ^ 32) l.names × Rises (map (λ n. n.index) l.names)) names.locals

-- the names that a file carries are proper
abbrev pub ReadAreProper : Type 0
ReadAreProper = (bytes : List ℕ) (count : ℕ) (names : Names) → AreNames bytes count names → AreProper count names

-- proper names are proper in an output, which has more functions
abbrev pub MapKeepsProper : Type 0
MapKeepsProper = (remap : Remap) (count : ℕ) (names : Names) → AreProper count names → AreProper (count + remap.added) (map_names remap names)

-- a header and sections, of which none is a `name` section
abbrev pub IsNameless : List ℕ → Type 0
IsNameless bytes = (rest : List ℕ) × (cs : List Chunk) × (bytes ≡ header ++ rest) × AreItems IsChunk rest cs × IsFirstNameSection cs None

-- a module without custom sections has no `name` section
abbrev pub FilesWithoutCustoms : Type 0
FilesWithoutCustoms = (bytes : List ℕ) (m : Module) → Gram bytes m → m.customs ≡ [] → IsNameless bytes

-- appended to a file without a `name` section, the section of names carries them
abbrev pub PutIsRead : Type 0
PutIsRead =
    (file : List ℕ) (count : ℕ) (names : Names) → IsNameless file → count ≤ 2 ^ 32 → AreProper count names
    → length (content_bytes names) < 2 ^ 32 → AreNames (file ++ name_section_bytes names) count names

-- a module with one custom section more
abbrev pub with_custom : Text → Module → Module
with_custom name m = record m { customs = m.customs ++ name ∷ [] }

-- the section of names makes of a module's file that of the module with this custom section more
abbrev pub PutKeepsModule : Type 0
PutKeepsModule =
    (file : List ℕ) (m : Module) (names : Names) (name : Text) → name.bytes ≡ codes "name" → names ≢ no_names → Gram file m
    → length (content_bytes names) < 2 ^ 32 → Gram (file ++ name_section_bytes names) (with_custom name m)

-- in an output each function and its locals have their names, hooks have none, and the module keeps its own
pub record Follow (remap : Remap) (there names : Names) : Type 0 where
  pub functions : (f : ℕ) → name_at (map_index remap f) there.functions ≡ name_at f names.functions
  pub locals : (f : ℕ) → locals_at (map_index remap f) there.locals ≡ locals_at f names.locals
  pub whole : there.module ≡ names.module
  pub hooks : (h : ℕ) → unmap_index remap h ≡ None → (name_at h there.functions ≡ None) × (locals_at h there.locals ≡ [])

abbrev pub NamesFollow : Type 0
NamesFollow = (remap : Remap) (names : Names) → Follow remap (map_names remap names) names
