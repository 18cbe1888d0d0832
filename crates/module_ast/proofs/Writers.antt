-- Writers: functions to bytes that are in a grammar where what they write fits.
use Rattle.std.proofs.Common.{ℕ, ◌^◌, ◌<◌, ◌≤◌, ◌⊎◌, inl, inr, List, [], ◌∷◌, ◌++◌, length, refl, sym, ap, subst, length-append, arith}
use Rattle.std.proofs.lemmas.Bool.{cases_lt}
use Rattle.std.specs.Prelude.{map, All}
use Rattle.std.proofs.lemmas.List.{length-map, map-id}
use Rattle.std.proofs.lemmas.List.Elements.{All-head, All-tail}
use Rattle.leb_binary.specs.Leb.{IsName}
use Rattle.leb_binary.specs.Shortest.{unsigned_bytes}
use Rattle.leb_binary.proofs.Spelled.{spelled_unsigned}
use Rattle.leb_binary.proofs.Written.{unsigned_last, unsigned_next}
use Rattle.module_ast.specs.Binary.{IsU32, AreItems, IsVec, IsSized, items_bytes, vec_bytes, sized_bytes, FitsIndex}

-- both parts of few bytes are few
pub front_short : (a b : List ℕ) → length (a ++ b) < 2 ^ 32 → length a < 2 ^ 32
front_short a b h = omega (arith, length-append a b)

pub back_short : (a b : List ℕ) → length (a ++ b) < 2 ^ 32 → length b < 2 ^ 32
back_short a b h = omega (arith, length-append a b)

pub rest_short : (c : ℕ) (b : List ℕ) → length (c ∷ b) < 2 ^ 32 → length b < 2 ^ 32
rest_short c b h = omega arith

-- three parts of few bytes are few each
pub record AreShort (first second third : List ℕ) : Type 0 where
  pub front : length first < 2 ^ 32
  pub middle : length second < 2 ^ 32
  pub back : length third < 2 ^ 32

pub three_short : (a b c : List ℕ) → length (a ++ b ++ c) < 2 ^ 32 → AreShort a b c
three_short a b c h =
    let both = front_short (a ++ b) c h in
    record { front = front_short a b both; middle = back_short a b both; back = back_short (a ++ b) c h }

-- What `f` writes of an `x` is `view x` in the grammar, where `x` fits and the bytes are few; and it is never nothing.
pub record Writes {A B : Type 0} (item : List ℕ → B → Type 0) (f : A → List ℕ) (view : A → B) (P : A → Type 0) : Type 0 where
  pub some : (x : A) → 1 ≤ length (f x)
  pub spelled : (x : A) → P x → length (f x) < 2 ^ 32 → item (f x) (view x)

-- numbers of 32 bits
pub u32_spelled : (n : ℕ) → FitsIndex n → IsU32 (unsigned_bytes n) n
u32_spelled n h = spelled_unsigned 32 n (omega arith) h

-- no number is spelled by no bytes
pub unsigned_some : (n : ℕ) → 1 ≤ length (unsigned_bytes n)
unsigned_some n = by_size (cases_lt n 128)
  where
    by_size : (n < 128) ⊎ (128 ≤ n) → 1 ≤ length (unsigned_bytes n)
    by_size (inl h) = let e = ap length (unsigned_last n h) in omega arith
    by_size (inr h) = let e = ap length (unsigned_next n h) in omega arith

pub index_writes : Writes IsU32 unsigned_bytes (λ n. n) FitsIndex
index_writes = record { some = unsigned_some; spelled = λ n h l. u32_spelled n h }

-- a count or a size before bytes is not nothing
pub counted_some : (n : ℕ) (bytes : List ℕ) → 1 ≤ length (unsigned_bytes n ++ bytes)
counted_some n bytes = let h = unsigned_some n in omega (arith, length-append (unsigned_bytes n) bytes)

-- no more bytes than their number has, before them
pub counted_short : (n : ℕ) (bytes : List ℕ) → n ≤ length bytes → length (unsigned_bytes n ++ bytes) < 2 ^ 32 → IsU32 (unsigned_bytes n) n
counted_short n bytes h l = u32_spelled n (omega (arith, length-append (unsigned_bytes n) bytes))

-- there are no more items than bytes
pub items_many : {A : Type 0} (f : A → List ℕ) → ((x : A) → 1 ≤ length (f x)) → (xs : List A) → length xs ≤ length (items_bytes f xs)
items_many f one [] = omega arith
items_many f one (x ∷ xs) = omega (arith, one x, items_many f one xs, length-append (f x) (items_bytes f xs))

module _ {A B : Type 0} (item : List ℕ → B → Type 0) (f : A → List ℕ) (view : A → B) (P : A → Type 0) (w : Writes item f view P) where
  -- one item after another
  items_spelled : (xs : List A) → All P xs → length (items_bytes f xs) < 2 ^ 32 → AreItems item (items_bytes f xs) (map view xs)
  items_spelled [] h l = refl
  items_spelled (x ∷ xs) h l = (
    f x,
    items_bytes f xs,
    refl,
    w.spelled x (All-head P x xs h) (front_short (f x) (items_bytes f xs) l),
    items_spelled xs (All-tail P x xs h) (back_short (f x) (items_bytes f xs) l),
  )

  -- a vector
  vec_spelled : (xs : List A) → All P xs → length (vec_bytes f xs) < 2 ^ 32 → IsVec item (vec_bytes f xs) (map view xs)
  vec_spelled xs h l = (
    unsigned_bytes (length xs),
    items_bytes f xs,
    refl,
    subst (IsU32 (unsigned_bytes (length xs))) (sym (length-map xs view)) (counted_short (length xs) (items_bytes f xs) (items_many f w.some xs) l),
    items_spelled xs h (back_short (unsigned_bytes (length xs)) (items_bytes f xs) l),
  )

  pub vec_writes : Writes (IsVec item) (vec_bytes f) (map view) (All P)
  vec_writes = record { some = λ xs. counted_some (length xs) (items_bytes f xs); spelled = vec_spelled }

  -- an item behind its size
  pub sized_writes : Writes (IsSized item) (λ x. sized_bytes (f x)) view P
  sized_writes = record {
    some = λ x. counted_some (length (f x)) (f x);
    spelled = λ x h l.
        let few = back_short (unsigned_bytes (length (f x))) (f x) l in
        (unsigned_bytes (length (f x)), f x, refl, u32_spelled (length (f x)) few, w.spelled x h few);
  }

-- items that are written as they are
pub list_writes : {A : Type 0} (item : List ℕ → A → Type 0) (f : A → List ℕ) (P : A → Type 0) → Writes item f (λ x. x) P → Writes (IsVec item) (vec_bytes f) (λ xs. xs) (All P)
list_writes item f P w = record {
  some = λ xs. counted_some (length xs) (items_bytes f xs);
  spelled = λ xs h l. subst (IsVec item (vec_bytes f xs)) (map-id xs) ((vec_writes item f (λ x. x) P w).spelled xs h l);
}

-- names
pub name_writes : Writes IsName (λ text. sized_bytes text.bytes) (λ text. text) (λ text. Unit {0})
name_writes = record {
  some = λ text. counted_some (length text.bytes) text.bytes;
  spelled = λ text h l.
      let few = back_short (unsigned_bytes (length text.bytes)) text.bytes l in
      (unsigned_bytes (length text.bytes), refl, u32_spelled (length text.bytes) few);
}
