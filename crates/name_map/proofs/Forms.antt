-- Name maps: bytes have them in one way, and indices rise as long as each is above those before.
use Rattle.std.proofs.Common.{◌≡◌, ℕ, suc, List, [], ◌∷◌, ◌++◌, map, Bool, false, ◌&&◌, nat_le, true≢false, refl, ap, sym, ◌∙◌}
use Rattle.std.proofs.lemmas.List.{map_push}
use Rattle.std.proofs.Math.Bool.{and_assoc, and-true}
use Rattle.leb_binary.specs.Texts.{Text}
use Rattle.leb_binary.specs.Leb.{IsName, IsFront, HasNoFront}
use Rattle.leb_binary.specs.Fronts.{OneFront}
use Rattle.leb_binary.proofs.Fronts.{one_unsigned, one_name, front_one}
use Rattle.module_ast.specs.Binary.{IsU32, IsVec}
use Rattle.module_ast.proofs.Compose.{one_both, one_vec}
use Rattle.name_map.specs.declared.Named.{Named}
use Rattle.name_map.specs.declared.Locals.{Locals}
use Rattle.name_map.specs.NameMaps.{rises_from, Rises, IsRisingVec, IsNameEntry, IsNameMap, IsLocalsEntry, IsIndirectNameMap}

-- ---- rising numbers

-- the least number that may come next
abbrev pub after : (least : ℕ) → List ℕ → ℕ
after least [] = least
after least (i ∷ is) = after (suc i) is

rises_push : (least : ℕ) (is : List ℕ) (j : ℕ) → rises_from least (is ++ j ∷ []) ≡ (rises_from least is && nat_le (after least is) j)
rises_push least [] j = and-true (nat_le least j)
rises_push least (i ∷ is) j = ap (λ b. nat_le least i && b) (rises_push (suc i) is j) ∙ sym (and_assoc (nat_le least i) (rises_from (suc i) is) (nat_le (after (suc i) is) j))

after_push : (least : ℕ) (is : List ℕ) (j : ℕ) → after least (is ++ j ∷ []) ≡ suc j
after_push least [] j = refl
after_push least (i ∷ is) j = after_push (suc i) is j

-- one entry more
pub entries_rise : {A : Type 0} (index : A → ℕ) (xs : List A) (x : A) (rises goes : Bool) (least i : ℕ) → rises ≡ rises_from 0 (map index xs) → least ≡ after 0 (map index xs)
    → i ≡ index x → goes ≡ (rises && nat_le least i) → goes ≡ rises_from 0 (map index (xs ++ x ∷ []))
entries_rise index xs x rises goes least i r l e g =
    g ∙ (ap (λ b. b && nat_le least i) r ∙ (ap (λ n. rises_from 0 (map index xs) && nat_le n i) l ∙ (ap (λ n. rises_from 0 (map index xs) && nat_le (after 0 (map index xs)) n) e
    ∙ sym (ap (rises_from 0) (map_push index xs x) ∙ rises_push 0 (map index xs) (index x)))))

pub entries_after : {A : Type 0} (index : A → ℕ) (xs : List A) (x : A) (next : ℕ) → next ≡ suc (index x) → next ≡ after 0 (map index (xs ++ x ∷ []))
entries_after index xs x next e = e ∙ sym (ap (after 0) (map_push index xs x) ∙ after_push 0 (map index xs) (index x))

-- ---- one way

abbrev named : ℕ → Text → Named
named index name = record { index = index; name = name }

pub one_named : OneFront IsNameEntry
one_named = one_both IsU32 IsName (λ (n : Named). n.index) (λ (n : Named). n.name) (λ m n p q. ap (λ i. named i m.name) p ∙ ap (λ t. named n.index t) q) (one_unsigned 32) one_name

pub one_rising : {A : Type 0} (entry : List ℕ → A → Type 0) (index : A → ℕ) → OneFront entry → OneFront (IsRisingVec entry index)
one_rising entry index o = record { one = λ a b x y m n p q e. (one_vec entry o).one a b x y m n p.0 q.0 e }

pub one_map : OneFront IsNameMap
one_map = one_rising IsNameEntry (λ n. n.index) one_named

abbrev inner : ℕ → List Named → Locals
inner func names = record { func = func; names = names }

pub one_locals : OneFront IsLocalsEntry
one_locals = one_both IsU32 IsNameMap (λ (l : Locals). l.func) (λ (l : Locals). l.names) (λ m n p q. ap (λ i. inner i m.names) p ∙ ap (λ t. inner n.func t) q) (one_unsigned 32) one_map

pub one_indirect : OneFront IsIndirectNameMap
one_indirect = one_rising IsLocalsEntry (λ l. l.func) one_locals

-- ---- at the front of bytes

module _ {A : Type 0} (entry : List ℕ → A → Type 0) (index : A → ℕ) where
  pub rising_none : (bytes : List ℕ) → HasNoFront (IsVec entry) bytes → HasNoFront (IsRisingVec entry index) bytes
  rising_none bytes h rest y (front, e, (p, q)) = h rest y (front, e, p)

  pub rising_some : (bytes rest : List ℕ) (xs : List A) → IsFront (IsVec entry) bytes rest xs → Rises (map index xs) → IsFront (IsRisingVec entry index) bytes rest xs
  rising_some bytes rest xs (front, e, p) q = (front, e, (p, q))

  -- a vector that stands there, and does not rise
  pub rising_falls : OneFront entry → (bytes rest : List ℕ) (xs : List A) → IsFront (IsVec entry) bytes rest xs → rises_from 0 (map index xs) ≡ false
      → HasNoFront (IsRisingVec entry index) bytes
  rising_falls o bytes rest xs here fails other ys (front, e, (p, q)) =
      let same = front_one (IsVec entry) (one_vec entry o) bytes rest other xs ys here (front, e, p) in
      true≢false (sym q ∙ (ap (λ zs. rises_from 0 (map index zs)) (sym same.1) ∙ fails))
