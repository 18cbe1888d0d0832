-- Writers that write the least: whatever spells the same has as many bytes or more.
use Rattle.std.proofs.Common.{◌≡◌, ℕ, ◌≤◌, List, [], ◌∷◌, ◌++◌, length, sym, ap, subst, length-append, arith}
use Rattle.std.specs.Prelude.{map}
use Rattle.std.proofs.lemmas.List.{length-map, map-id}
use Rattle.leb_binary.specs.Texts.{Text}
use Rattle.leb_binary.specs.Leb.{IsName}
use Rattle.leb_binary.specs.Shortest.{unsigned_bytes}
use Rattle.leb_binary.proofs.Spelled.{shortest_unsigned}
use Rattle.leb_binary.proofs.Lengths.{longer_unsigned}
use Rattle.module_ast.specs.Binary.{IsU32, AreItems, IsVec, IsSized, items_bytes, vec_bytes, sized_bytes}

-- what spells `view x` has at least as many bytes as `f` writes of `x`
pub record AtLeast {A B : Type 0} (item : List ℕ → B → Type 0) (f : A → List ℕ) (view : A → B) : Type 0 where
  pub least : (bytes : List ℕ) (x : A) → item bytes (view x) → length (f x) ≤ length bytes

-- equal bytes
pub least_same : (a bytes : List ℕ) → bytes ≡ a → length a ≤ length bytes
least_same a bytes e = omega (arith, ap length e)

-- a part, and what follows it
pub least_both : (a b front rest bytes : List ℕ) → bytes ≡ front ++ rest → length a ≤ length front → length b ≤ length rest → length (a ++ b) ≤ length bytes
least_both a b front rest bytes e h k = omega (arith, ap length e, length-append a b, length-append front rest)

-- a byte, and what follows it
pub least_op : (op : ℕ) (a rest bytes : List ℕ) → bytes ≡ op ∷ rest → length a ≤ length rest → length (op ∷ a) ≤ length bytes
least_op op a rest bytes e h = omega (arith, ap length e)

-- numbers of 32 bits
pub u32_least : (bytes : List ℕ) (n : ℕ) → IsU32 bytes n → length (unsigned_bytes n) ≤ length bytes
u32_least bytes n h = shortest_unsigned 32 bytes n h

-- indices
pub index_least : AtLeast IsU32 unsigned_bytes (λ n. n)
index_least = record { least = u32_least }

-- a size, and content of no fewer bytes than this
pub least_sized : (a size content bytes : List ℕ) → bytes ≡ size ++ content → IsU32 size (length content) → length a ≤ length content → length (sized_bytes a) ≤ length bytes
least_sized a size content bytes e n h =
    let k = longer_unsigned (length a) (length content) h in
    let s = u32_least size (length content) n in
    least_both (unsigned_bytes (length a)) a size content bytes e (omega arith) h

-- names
pub name_least : (bytes : List ℕ) (text : Text) → IsName bytes text → length (sized_bytes text.bytes) ≤ length bytes
name_least bytes text (size, e, n) = least_sized text.bytes size text.bytes bytes e n (omega arith)

module _ {A B : Type 0} (item : List ℕ → B → Type 0) (f : A → List ℕ) (view : A → B) (w : AtLeast item f view) where
  -- one item after another
  items_least : (xs : List A) (bytes : List ℕ) → AreItems item bytes (map view xs) → length (items_bytes f xs) ≤ length bytes
  items_least [] bytes h = omega arith
  items_least (x ∷ xs) bytes (front, rest, e, p, q) = least_both (f x) (items_bytes f xs) front rest bytes e (w.least front x p) (items_least xs rest q)

  -- a vector
  vec_at_least : (bytes : List ℕ) (xs : List A) → IsVec item bytes (map view xs) → length (vec_bytes f xs) ≤ length bytes
  vec_at_least bytes xs (size, rest, e, n, h) =
      let c : IsU32 size (length xs) = subst (IsU32 size) (length-map xs view) n in
      least_both (unsigned_bytes (length xs)) (items_bytes f xs) size rest bytes e (u32_least size (length xs) c) (items_least xs rest h)

  pub vec_least : AtLeast (IsVec item) (vec_bytes f) (map view)
  vec_least = record { least = vec_at_least }

  -- an item behind its size
  sized_at_least : (bytes : List ℕ) (x : A) → IsSized item bytes (view x) → length (sized_bytes (f x)) ≤ length bytes
  sized_at_least bytes x (size, content, e, n, h) = least_sized (f x) size content bytes e n (w.least content x h)

  pub sized_least : AtLeast (IsSized item) (λ x. sized_bytes (f x)) view
  sized_least = record { least = sized_at_least }

-- lists of indices
pub indices_least : (bytes : List ℕ) (xs : List ℕ) → IsVec IsU32 bytes xs → length (vec_bytes unsigned_bytes xs) ≤ length bytes
indices_least bytes xs h =
    let same = λ (n : ℕ). n in
    let k : map same xs ≡ xs = map-id xs in
    (vec_least IsU32 unsigned_bytes same index_least).least bytes xs (subst (IsVec IsU32 bytes) (sym k) h)
