-- How bytes begin with the spelling of something.
use Rattle.std.specs.Prelude.{◌≡◌, ℕ, List, ◌++◌}

-- the bytes begin with the spelling of something in range, and the rest follows
abbrev pub BeginsWithSpelling : {A : Type 0} → (fits : A → Type 0) → (spelling : A → List ℕ) → (bytes rest : List ℕ) → A → Type 0
BeginsWithSpelling fits spelling bytes rest x = fits x × (bytes ≡ spelling x ++ rest)

-- the bytes begin with the spelling of nothing in range
abbrev pub NoneBegins : {A : Type 0} → (fits : A → Type 0) → (spelling : A → List ℕ) → (bytes : List ℕ) → Type 0
NoneBegins {A} fits spelling bytes = (rest : List ℕ) (x : A) → BeginsWithSpelling fits spelling bytes rest x → ⊥

-- the bytes begin with the spelling of nothing else in range
abbrev pub OnlyBegins : {A : Type 0} → (fits : A → Type 0) → (spelling : A → List ℕ) → (bytes rest : List ℕ) → A → Type 0
OnlyBegins {A} fits spelling bytes rest x = (y : A) (other : List ℕ) → BeginsWithSpelling fits spelling bytes other y → (y ≡ x) × (other ≡ rest)
