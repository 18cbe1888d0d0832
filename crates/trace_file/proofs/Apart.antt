-- Spellings of which none begins another, and how bytes begin with them.
use Rattle.std.proofs.Common.{◌≡◌, ℕ, ◌≤◌, List, [], ◌∷◌, ◌++◌, length, refl, sym, ap, ◌∙◌, append_assoc, arith}
use Rattle.std.specs.Prelude.{flat_map}
use Rattle.std.specs.List.{AllByRecursion}
use Rattle.leb_binary.specs.Leb.{IsFront, HasNoFront}
use Rattle.leb_binary.specs.Fronts.{OneFront}
use Rattle.trace_file.specs.Begins.{BeginsWithSpelling, OnlyBegins, NoneBegins}

-- no spelling begins another: the same bytes are those of one thing, and what follows it
pub record AreApart {A : Type 0} (fits : A → Type 0) (spelling : A → List ℕ) : Type 0 where
  pub apart : (x y : A) (r s : List ℕ) → fits x → fits y → spelling x ++ r ≡ spelling y ++ s → (x ≡ y) × (r ≡ s)

-- so what bytes begin with is the only thing
pub only_one : {A : Type 0} {fits : A → Type 0} {spelling : A → List ℕ} → AreApart fits spelling → (bytes rest : List ℕ) (x : A) → BeginsWithSpelling fits spelling bytes rest x → OnlyBegins fits spelling bytes rest x
only_one a bytes rest x (f, d) y other (g, e) = a.apart y x other rest g f (sym e ∙ d)

-- nothing
pub apart_unit : AreApart {A = Unit {0}} (λ u. Unit {0}) (λ u. [])
apart_unit = record { apart = λ x y r s f g e. (refl, e) }

-- two, one behind the other
module _ {A B : Type 0} (fits : A → Type 0) (spelling : A → List ℕ) (fits' : B → Type 0) (spelling' : B → List ℕ) where
  abbrev BothFit : A × B → Type 0
  BothFit p = fits p.0 × fits' p.1

  abbrev both : A × B → List ℕ
  both p = spelling p.0 ++ spelling' p.1

  pub apart_pair : AreApart fits spelling → AreApart fits' spelling' → AreApart BothFit both
  apart_pair a b = record {
    apart = λ x y r s f g e.
        let e1 : spelling x.0 ++ (spelling' x.1 ++ r) ≡ spelling y.0 ++ (spelling' y.1 ++ s) = sym (append_assoc (spelling x.0) (spelling' x.1) r) ∙ e ∙ append_assoc (spelling y.0) (spelling' y.1) s in
        let p = a.apart x.0 y.0 (spelling' x.1 ++ r) (spelling' y.1 ++ s) f.0 g.0 e1 in
        let q = b.apart x.1 y.1 r s f.1 g.1 p.1 in
        (λ i. (p.0 i, q.0 i), q.1);
  }

-- the exact spellings of an item of a grammar
module _ {A : Type 0} (item : List ℕ → A → Type 0) (fits : A → Type 0) (spelling : A → List ℕ) (one : OneFront item) (spelled : (x : A) → fits x → item (spelling x) x) where
  pub apart_item : AreApart fits spelling
  apart_item = record {
    apart = λ x y r s f g e.
        let t = one.one (spelling x) (spelling y) r s x y (spelled x f) (spelled y g) e in
        (t.value, t.rest);
  }

  pub no_item : (bytes : List ℕ) → HasNoFront item bytes → NoneBegins fits spelling bytes
  no_item bytes h rest x (f, e) = h rest x (spelling x, e, spelled x f)

  pub other_item : (bytes rest : List ℕ) (x : A) → (front : IsFront item bytes rest x) → (front.0 ≡ spelling x → ⊥) → NoneBegins fits spelling bytes
  other_item bytes rest x (front, d, p) h r y (f, e) =
      let t = one.one front (spelling y) rest r x y p (spelled y f) (sym d ∙ e) in
      h (t.front ∙ ap spelling (sym t.value))

-- one byte, which tells what it is
module _ {A : Type 0} (fits : A → Type 0) (code : A → ℕ) (told : (x y : A) → code x ≡ code y → x ≡ y) where
  abbrev coded : A → List ℕ
  coded x = code x ∷ []

  pub apart_code : AreApart fits coded
  apart_code = record {
    apart = λ x y r s f g e.
        let c : code x ≡ code y = cc in
        let t : r ≡ s = cc in
        (told x y c, t);
  }

-- several, one after the other
module _ {A : Type 0} (fits : A → Type 0) (spelling : A → List ℕ) (a : AreApart fits spelling) where
  -- where some begin with others, the rest follows
  pub same_front : (xs ys : List A) (r s : List ℕ) → AllByRecursion fits xs → AllByRecursion fits ys → length xs ≤ length ys → flat_map spelling xs ++ r ≡ flat_map spelling ys ++ s
      → (zs : List A) × (ys ≡ xs ++ zs) × (r ≡ flat_map spelling zs ++ s)
  same_front [] ys r s f g l e = (ys, refl, e)
  same_front (x ∷ xs) [] r s f g l e = absurd (omega arith)
  same_front (x ∷ xs) (y ∷ ys) r s f g l e =
      let e1 : spelling x ++ (flat_map spelling xs ++ r) ≡ spelling y ++ (flat_map spelling ys ++ s) = sym (append_assoc (spelling x) (flat_map spelling xs) r) ∙ e ∙ append_assoc (spelling y) (flat_map spelling ys) s in
      let t = a.apart x y (flat_map spelling xs ++ r) (flat_map spelling ys ++ s) f.0 g.0 e1 in
      let u = same_front xs ys r s f.1 g.1 (omega arith) t.1 in
      (u.0, ap (λ l. y ∷ l) u.1 ∙ ap (λ v. v ∷ (xs ++ u.0)) (sym t.0), u.2)
