-- Appendix, Name Section: the `name` section of a file, and the names in it.
use Rattle.std.specs.Prelude.{◌≡◌, ◌==◌, ◌⊎◌, ℕ, List, [], ◌∷◌, ◌++◌, find, Option, Some, None, option_map, IsSomeAnd, codes}
use Rattle.leb_binary.specs.Texts.{Text}
use Rattle.leb_binary.specs.Leb.{IsName, IsFront}
use Rattle.leb_binary.specs.Reading.{IsByte}
use Rattle.module_ast.specs.Binary.{Both, AreItems, IsSized, header}
use Rattle.name_map.specs.declared.Names.{Names}
use Rattle.name_map.specs.NameMaps.{IsNameMap, IsIndirectNameMap}
use Rattle.name_map.specs.Names.{no_names, known_names}

-- a section of a file (5.5.2), or a subsection of its `name` section
pub record Chunk : Type 0 where
  pub id : ℕ
  pub content : List ℕ

abbrev pub chunk : (id : ℕ) → (content : List ℕ) → Chunk
chunk id content = record { id = id; content = content }

-- an id, a size, and as many bytes
abbrev pub IsChunk : List ℕ → Chunk → Type 0
IsChunk bytes c = Both IsByte (IsSized (λ content x. content ≡ x)) bytes c.id c.content

-- the content of the first chunk with this id
abbrev pub content_of : (id : ℕ) → List Chunk → Option (List ℕ)
content_of id cs = option_map (λ c. c.content) (find (λ c. c.id == id) cs)

-- ---- the content of a `name` section

-- the name of the module, which is all of its subsection; none if there is no such subsection
abbrev pub IsModuleNameIn : (subsection : Option (List ℕ)) → Option Text → Type 0
IsModuleNameIn None name = name ≡ None
IsModuleNameIn (Some content) name = IsSomeAnd name (IsName content)

-- the entries of a name map, which is all of its subsection; none if there is no such subsection
abbrev pub AreEntriesIn : {A : Type 0} → (List ℕ → List A → Type 0) → (subsection : Option (List ℕ)) → List A → Type 0
AreEntriesIn name_map None xs = xs ≡ []
AreEntriesIn name_map (Some content) xs = name_map content xs

-- the bytes are subsections; the first of the ids 0, 1 and 2 have the names of the module, of its functions and of
-- their locals
abbrev pub IsNameData : List ℕ → Names → Type 0
IsNameData subsections names =
    (cs : List Chunk) × AreItems IsChunk subsections cs × IsModuleNameIn (content_of 0 cs) names.module
    × AreEntriesIn IsNameMap (content_of 1 cs) names.functions × AreEntriesIn IsIndirectNameMap (content_of 2 cs) names.locals

-- ---- a file

-- the bytes are a header and sections, whatever the content of these
abbrev pub IsFile : List ℕ → Type 0
IsFile bytes = (rest : List ℕ) × (cs : List Chunk) × (bytes ≡ header ++ rest) × AreItems IsChunk rest cs

-- a custom section (5.5.3) with the name `name`, and the bytes behind that name
abbrev pub IsNameSection : Chunk → (subsections : List ℕ) → Type 0
IsNameSection c subsections = (c.id ≡ 0) × (name : Text) × (name.bytes ≡ codes "name") × IsFront IsName c.content subsections name

-- the first `name` section, if there is one
abbrev pub IsFirstNameSection : List Chunk → (found : Option (List ℕ)) → Type 0
IsFirstNameSection [] found = found ≡ None
IsFirstNameSection (c ∷ cs) found =
    ((subsections : List ℕ) × IsNameSection c subsections × (found ≡ Some subsections))
    ⊎ (((subsections : List ℕ) → IsNameSection c subsections → ⊥) × IsFirstNameSection cs found)

-- the names in a `name` section of functions with an index below `functions`; none if the section is not of its form
abbrev pub AreNamesIn : (found : Option (List ℕ)) → (functions : ℕ) → Names → Type 0
AreNamesIn None functions names = names ≡ no_names
AreNamesIn (Some subsections) functions names =
    ((all : Names) × IsNameData subsections all × (names ≡ known_names functions all))
    ⊎ (((all : Names) → IsNameData subsections all → ⊥) × (names ≡ no_names))

-- the names that a file with `functions` functions carries
abbrev pub AreNames : (bytes : List ℕ) → (functions : ℕ) → Names → Type 0
AreNames bytes functions names =
    (rest : List ℕ) × (cs : List Chunk) × (found : Option (List ℕ))
    × (bytes ≡ header ++ rest) × AreItems IsChunk rest cs × IsFirstNameSection cs found × AreNamesIn found functions names
