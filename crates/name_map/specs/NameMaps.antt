-- Appendix, Name Section: name maps, vectors of entries by rising index.
use Rattle.std.specs.Prelude.{◌≡◌, ℕ, suc, List, [], ◌∷◌, map, Bool, true, ◌&&◌, nat_le}
use Rattle.leb_binary.specs.Leb.{IsName}
use Rattle.module_ast.specs.Binary.{IsU32, Both, IsVec}
use Rattle.name_map.specs.declared.Named.{Named}
use Rattle.name_map.specs.declared.Locals.{Locals}

-- whether the numbers rise strictly, from this one on
abbrev pub rises_from : (least : ℕ) → List ℕ → Bool
rises_from least [] = true
rises_from least (i ∷ is) = nat_le least i && rises_from (suc i) is

abbrev pub Rises : List ℕ → Type 0
Rises is = rises_from 0 is ≡ true

-- a vector of entries whose indices rise strictly
abbrev pub IsRisingVec : {A : Type 0} → (List ℕ → A → Type 0) → (index : A → ℕ) → List ℕ → List A → Type 0
IsRisingVec entry index bytes xs = IsVec entry bytes xs × Rises (map index xs)

-- an index and its name
abbrev pub IsNameEntry : List ℕ → Named → Type 0
IsNameEntry bytes n = Both IsU32 IsName bytes n.index n.name

abbrev pub IsNameMap : List ℕ → List Named → Type 0
IsNameMap = IsRisingVec IsNameEntry (λ n. n.index)

-- a function and the names of its locals
abbrev pub IsLocalsEntry : List ℕ → Locals → Type 0
IsLocalsEntry bytes l = Both IsU32 IsNameMap bytes l.func l.names

abbrev pub IsIndirectNameMap : List ℕ → List Locals → Type 0
IsIndirectNameMap = IsRisingVec IsLocalsEntry (λ l. l.func)
