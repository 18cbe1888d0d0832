-- Files that were read in part.
use Rattle.std.specs.Prelude.{◌≡◌, ℕ, ◌<◌, List, [], ◌∷◌, ◌++◌, max}
use Rattle.module_ast.specs.Binary.{Section, IsSection, AreItems, AreOrdered, HasNext, id_of}

abbrev pub AreBytes : List ℕ → Type 0
AreBytes [] = Unit {0}
AreBytes (b ∷ bs) = (b < 256) × AreBytes bs

-- the highest of the sections' ids and `last`
abbrev pub last_of : (last : ℕ) → List Section → ℕ
last_of last [] = last
last_of last (s ∷ ss) = last_of (max last (id_of s.0)) ss

-- behind the header: sections in order, and then one of this id that does not follow
abbrev pub FailsAt : List ℕ → (id : ℕ) → Type 0
FailsAt bytes id =
    (before : List Section) × (good rest : List ℕ) × (bytes ≡ good ++ id ∷ rest) × AreItems IsSection good before × AreOrdered 0 before × ¬ HasNext before (id ∷ rest)
