-- Names that are read, and names that are mapped, are by rising index and of functions that there are.
use Rattle.std.proofs.Common.{◌≡◌, ℕ, suc, ◌+◌, ◌^◌, ◌<◌, ◌≤◌, inl, inr, List, [], ◌∷◌, map, filter, nat_lt, nat_le, cond, Option, Some, None, Bool, true, false, ◌&&◌, refl, sym, subst, arith}
use Rattle.std.specs.Prelude.{All}
use Rattle.std.proofs.lemmas.Bool.Decides.{nat_tests}
use Rattle.std.proofs.lemmas.Bool.{and_parts, and_from, leb-true, le-leb, ltb-true}
use Rattle.std.proofs.lemmas.List.Elements.{All-nil, All-cons, All-map, All-weaker, All-filter, filter_passes}
use Rattle.leb_binary.proofs.Numbers.{below_of_unsigned}
use Rattle.module_ast.specs.Binary.{AreItems, IsVec}
use Rattle.index_remap.specs.declared.Remap.{Remap}
use Rattle.index_remap.specs.Remap.{map_index}
use Rattle.name_map.specs.declared.Named.{Named}
use Rattle.name_map.specs.declared.Locals.{Locals}
use Rattle.name_map.specs.declared.Names.{Names}
use Rattle.name_map.specs.NameMaps.{rises_from, Rises, IsRisingVec, IsNameEntry, IsLocalsEntry, IsIndirectNameMap}
use Rattle.name_map.specs.Names.{no_names, known_names, map_named, map_locals}
use Rattle.name_map.specs.Sections.{content_of, AreEntriesIn, IsNameData, AreNamesIn}
use Rattle.name_map.specs.Laws.{AreProper, ReadAreProper, MapKeepsProper}

-- ---- what rises

-- from a lower number on
rises_lower : (a b : ℕ) (is : List ℕ) → b ≤ a → rises_from a is ≡ true → rises_from b is ≡ true
rises_lower a b [] h r = refl
rises_lower a b (i ∷ is) h r =
    let (first, rest) = and_parts (nat_le a i) (rises_from (suc i) is) r in
    and_from (nat_le b i) (rises_from (suc i) is) (le-leb b i (omega (arith, h, leb-true a i first))) rest

-- some of it
rises_kept : {A : Type 0} (f : A → ℕ) (test : A → Bool) (a : ℕ) (xs : List A) → rises_from a (map f xs) ≡ true → rises_from a (map f (filter test xs)) ≡ true
rises_kept f test a [] r = refl
rises_kept f test a (x ∷ xs) r = let (first, rest) = and_parts (nat_le a (f x)) (rises_from (suc (f x)) (map f xs)) r in go first (rises_kept f test (suc (f x)) xs rest) (test x)
  where
    go : nat_le a (f x) ≡ true → rises_from (suc (f x)) (map f (filter test xs)) ≡ true → (b : Bool) → rises_from a (map f (cond b (x ∷ filter test xs) (filter test xs))) ≡ true
    go first rest true = and_from (nat_le a (f x)) (rises_from (suc (f x)) (map f (filter test xs))) first rest
    go first rest false = rises_lower (suc (f x)) a (map f (filter test xs)) (omega (arith, leb-true a (f x) first)) rest

-- what is mapped so that it keeps its order
rises_mapped : {A : Type 0} (f : A → ℕ) (g : A → A) (k : ℕ → ℕ) → ((x : A) → f (g x) ≡ k (f x)) → ((i j : ℕ) → i < j → k i < k j) → (a b : ℕ)
    → ((j : ℕ) → a ≤ j → b ≤ k j) → (xs : List A) → rises_from a (map f xs) ≡ true → rises_from b (map f (map g xs)) ≡ true
rises_mapped f g k commutes mono a b from [] r = refl
rises_mapped f g k commutes mono a b from (x ∷ xs) r =
    let (first, more) = and_parts (nat_le a (f x)) (rises_from (suc (f x)) (map f xs)) r in
    let rest = rises_mapped f g k commutes mono (suc (f x)) (suc (k (f x))) (λ j h. mono (f x) j h) xs more in
    subst (λ i. (nat_le b i && rises_from (suc i) (map f (map g xs))) ≡ true) (sym (commutes x))
    (and_from (nat_le b (k (f x))) (rises_from (suc (k (f x))) (map f (map g xs))) (le-leb b (k (f x)) (from (f x) (leb-true a (f x) first))) rest)

all_map : {A : Type 0} (P Q : A → Type 0) (g : A → A) → ((x : A) → P x → Q (g x)) → (xs : List A) → All P xs → All Q (map g xs)
all_map P Q g h xs p = All-map Q g xs (All-weaker P (λ x. Q (g x)) h xs p)

-- those below a number
pub kept_below : {A : Type 0} (f : A → ℕ) (n : ℕ) (xs : List A) → All (λ x. f x < n) (filter (λ x. nat_lt (f x) n) xs)
kept_below f n xs = All-weaker (λ x. nat_lt (f x) n ≡ true) (λ x. f x < n) (λ x e. ltb-true (f x) n e) (filter (λ x. nat_lt (f x) n) xs) (filter_passes (λ x. nat_lt (f x) n) xs)

-- ---- what is mapped

map_rises : (remap : Remap) (i j : ℕ) → i < j → map_index remap i < map_index remap j
map_rises remap i j h = go (nat_lt i remap.imports) refl (nat_lt j remap.imports) refl
  where
    go : (a : Bool) → nat_lt i remap.imports ≡ a → (b : Bool) → nat_lt j remap.imports ≡ b → cond a i (i + remap.added) < cond b j (j + remap.added)
    go true e true d = h
    go true e false d = omega (arith, h)
    go false e true d = absurd (grind (arith, nat_tests))
    go false e false d = omega (arith, h)

map_below : (remap : Remap) (count i : ℕ) → i < count → map_index remap i < count + remap.added
map_below remap count i h = go (nat_lt i remap.imports)
  where
    go : (a : Bool) → cond a i (i + remap.added) < count + remap.added
    go true = omega (arith, h)
    go false = omega (arith, h)

-- the names of a function's locals
abbrev AreInner : Locals → Type 0
AreInner l = All (λ (n : Named). n.index < 2 ^ 32) l.names × Rises (map (λ n. n.index) l.names)

pub map_keeps_proper : MapKeepsProper
map_keeps_proper remap count names p = record {
  order = rises_mapped (λ (n : Named). n.index) (map_named remap) (map_index remap) (λ n. refl) (map_rises remap) 0 0 (λ j h. omega arith) names.functions p.order;
  below = all_map (λ (n : Named). n.index < count) (λ n. n.index < count + remap.added) (map_named remap) (λ n h. map_below remap count n.index h) names.functions p.below;
  owner_order = rises_mapped (λ (l : Locals). l.func) (map_locals remap) (map_index remap) (λ l. refl) (map_rises remap) 0 0 (λ j h. omega arith) names.locals p.owner_order;
  owners_below = all_map (λ (l : Locals). l.func < count) (λ l. l.func < count + remap.added) (map_locals remap) (λ l h. map_below remap count l.func h) names.locals p.owners_below;
  inner = all_map AreInner AreInner (map_locals remap) (λ l h. h) names.locals p.inner;
}

-- ---- what is read

items_all : {A : Type 0} (item : List ℕ → A → Type 0) (P : A → Type 0) → ((bytes : List ℕ) (x : A) → item bytes x → P x) → (bytes : List ℕ) (xs : List A) → AreItems item bytes xs → All P xs
items_all item P read bytes [] h = All-nil P
items_all item P read bytes (x ∷ xs) (front, rest, e, p, q) = All-cons P x xs (read front x p) (items_all item P read rest xs q)

vec_all : {A : Type 0} (item : List ℕ → A → Type 0) (P : A → Type 0) → ((bytes : List ℕ) (x : A) → item bytes x → P x) → (bytes : List ℕ) (xs : List A) → IsVec item bytes xs → All P xs
vec_all item P read bytes xs (front, rest, e, n, items) = items_all item P read rest xs items

named_below : (bytes : List ℕ) (n : Named) → IsNameEntry bytes n → n.index < 2 ^ 32
named_below bytes n (front, rest, e, i, name) = below_of_unsigned 32 front n.index i

locals_inner : (bytes : List ℕ) (l : Locals) → IsLocalsEntry bytes l → AreInner l
locals_inner bytes l (front, rest, e, i, (names, rises)) = (vec_all IsNameEntry (λ (n : Named). n.index < 2 ^ 32) named_below rest l.names names, rises)

entries_rise : {A : Type 0} (entry : List ℕ → A → Type 0) (index : A → ℕ) (o : Option (List ℕ)) (xs : List A) → AreEntriesIn (IsRisingVec entry index) o xs → Rises (map index xs)
entries_rise entry index None xs e = subst (λ l. Rises (map index l)) (sym e) refl
entries_rise entry index (Some content) xs h = h.1

inner_proper : (o : Option (List ℕ)) (ls : List Locals) → AreEntriesIn IsIndirectNameMap o ls → All AreInner ls
inner_proper None ls e = subst (All AreInner) (sym e) (All-nil AreInner)
inner_proper (Some content) ls h = vec_all IsLocalsEntry AreInner locals_inner content ls h.0

none_proper : (count : ℕ) → AreProper count no_names
none_proper count = record {
  order = refl;
  below = All-nil (λ (n : Named). n.index < count);
  owner_order = refl;
  owners_below = All-nil (λ (l : Locals). l.func < count);
  inner = All-nil AreInner;
}

known_proper : (count : ℕ) (subs : List ℕ) (all : Names) → IsNameData subs all → AreProper count (known_names count all)
known_proper count subs all (cs, items, name, functions, locals) = record {
  order = rises_kept (λ (n : Named). n.index) (λ n. nat_lt n.index count) 0 all.functions (entries_rise IsNameEntry (λ (n : Named). n.index) (content_of 1 cs) all.functions functions);
  below = kept_below (λ (n : Named). n.index) count all.functions;
  owner_order = rises_kept (λ (l : Locals). l.func) (λ l. nat_lt l.func count) 0 all.locals (entries_rise IsLocalsEntry (λ (l : Locals). l.func) (content_of 2 cs) all.locals locals);
  owners_below = kept_below (λ (l : Locals). l.func) count all.locals;
  inner = All-filter (λ l. nat_lt l.func count) AreInner all.locals (inner_proper (content_of 2 cs) all.locals locals);
}

told_proper : (o : Option (List ℕ)) (count : ℕ) (names : Names) → AreNamesIn o count names → AreProper count names
told_proper None count names e = subst (AreProper count) (sym e) (none_proper count)
told_proper (Some subs) count names (inl (all, is, e)) = subst (AreProper count) (sym e) (known_proper count subs all is)
told_proper (Some subs) count names (inr (none, e)) = subst (AreProper count) (sym e) (none_proper count)

pub read_are_proper : ReadAreProper
read_are_proper bytes count names (rest, cs, found, is, items, first, told) = told_proper found count names told
