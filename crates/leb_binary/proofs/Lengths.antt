-- How long the shortest spellings are: no signed spelling is shorter, and a greater unsigned number has no fewer bytes.
use Rattle.std.proofs.Common.{◌≡◌, ℕ, zero, suc, ◌+◌, ◌-◌, ◌*◌, ◌/◌, ◌^◌, ◌<◌, ◌≤◌, inl, inr, List, [], ◌∷◌, length, ap, arith}
use Rattle.std.specs.Prelude.{ℤ, pos, negsuc, ◌+ℤ◌, ◌-ℤ◌, ◌*ℤ◌}
use Rattle.std.proofs.lemmas.Bool.{cases_lt}
use Rattle.std.proofs.lemmas.Int.{ints}
use Rattle.leb_binary.specs.Leb.{IsSigned}
use Rattle.leb_binary.specs.Shortest.{unsigned_bytes, signed_bytes, positive_within, negative_within}
use Rattle.leb_binary.proofs.Written.{unsigned_last, unsigned_next, positive_last, positive_next, negative_last, negative_next}

-- how long spellings are: that of a small number is one byte, and another has one byte more than that of the number without
-- its lowest seven bits
pub record AreLong (bytes : ℕ → List ℕ) (small : ℕ) : Type 0 where
  pub one : (n : ℕ) → n < small → length (bytes n) ≡ 1
  pub more : (n : ℕ) → small ≤ n → length (bytes n) ≡ suc (length (bytes (n / 128)))

pub unsigned_long : AreLong unsigned_bytes 128
unsigned_long = record { one = λ n l. ap length (unsigned_last n l); more = λ n g. ap length (unsigned_next n g) }

positive_long : AreLong (λ n. positive_within n n) 64
positive_long = record { one = λ n l. ap length (positive_last n l); more = λ n g. ap length (positive_next n g) }

negative_long : AreLong (λ n. negative_within n n) 64
negative_long = record { one = λ n l. ap length (negative_last n l); more = λ n g. ap length (negative_next n g) }

-- a spelling has a byte at least
pub unsigned_some : (n : ℕ) → 1 ≤ length (unsigned_bytes n)
unsigned_some n = elim (cases_lt n 128) [ inl l ↦ omega (arith, unsigned_long.one n l) | inr g ↦ omega (arith, unsigned_long.more n g) ]

-- by as many steps as the greater number allows
longer_by : (fuel n m : ℕ) → m ≤ fuel → n ≤ m → length (unsigned_bytes n) ≤ length (unsigned_bytes m)
longer_by zero n m f h = let e : n ≡ m = omega arith in let k = ap (λ x. length (unsigned_bytes x)) e in omega arith
longer_by (suc fuel) n m f h =
    elim (cases_lt n 128) [
      | inl l ↦ let r = ap length (unsigned_last n l) in let s = unsigned_some m in omega arith
      | inr g ↦
          let r = ap length (unsigned_next n g) in
          let s = ap length (unsigned_next m (omega arith)) in
          let k = longer_by fuel (n / 128) (m / 128) (omega arith) (omega arith) in
          omega arith
    ]

-- a greater number has no fewer bytes
pub longer_unsigned : (n m : ℕ) → n ≤ m → length (unsigned_bytes n) ≤ length (unsigned_bytes m)
longer_unsigned n m h = longer_by m n m (omega arith) h

-- one byte, without the sign and with it
positive_end : (b : ℕ) (z : ℤ) → b < 64 → z ≡ pos b → length (signed_bytes z) ≤ 1
positive_end b z l e = let r = ap length (positive_last b l) in let k = ap (λ x. length (signed_bytes x)) e in omega arith

negative_end : (b : ℕ) (z : ℤ) → 64 ≤ b → b < 128 → z ≡ pos b -ℤ pos 128 → length (signed_bytes z) ≤ 1
negative_end b z l g e =
    let f : z ≡ negsuc (127 - b) = omega (arith, ints) in
    let r = ap length (negative_last (127 - b) (omega arith)) in
    let k = ap (λ x. length (signed_bytes x)) f in
    omega arith

-- one byte more, where the number without its lowest seven bits is `high`
pub one_longer : (bytes : ℕ → List ℕ) (small n high count : ℕ) → AreLong bytes small → 1 ≤ count → n / 128 ≡ high → length (bytes high) ≤ count → length (bytes n) ≤ suc count
one_longer bytes small n high count long c q i =
    elim (cases_lt n small) [
      | inl l ↦ omega (arith, long.one n l)
      | inr g ↦ omega (arith, long.more n g, ap (λ m. length (bytes m)) q, i)
    ]

signed_step : (b count : ℕ) (z high : ℤ) → 1 ≤ count → 128 ≤ b → b < 256 → z ≡ pos 128 *ℤ high +ℤ pos (b - 128) → length (signed_bytes high) ≤ count → length (signed_bytes z) ≤ suc count
signed_step b count z (pos h) c l g e i =
    let f : z ≡ pos (128 * h + (b - 128)) = omega (arith, ints) in
    let k = ap (λ x. length (signed_bytes x)) f in
    let s = one_longer (λ n. positive_within n n) 64 (128 * h + (b - 128)) h count positive_long c (omega arith) i in
    omega arith
signed_step b count z (negsuc h) c l g e i =
    let f : z ≡ negsuc (128 * h + (255 - b)) = omega (arith, ints) in
    let k = ap (λ x. length (signed_bytes x)) f in
    let s = one_longer (λ n. negative_within n n) 64 (128 * h + (255 - b)) h count negative_long c (omega arith) i in
    omega arith

-- no spelling is shorter
pub shortest_signed : (size : ℕ) (bytes : List ℕ) (z : ℤ) → IsSigned size bytes z → length (signed_bytes z) ≤ length bytes
shortest_signed size [] z p = absurd p
shortest_signed size (b ∷ []) z (inl p) = positive_end b z p.0 p.2
shortest_signed size (b ∷ []) z (inr p) = negative_end b z p.0 p.1 p.3
shortest_signed size (b ∷ c ∷ bytes) z p = signed_step b (length (c ∷ bytes)) z p.3 (omega arith) p.0 p.1 p.5 (shortest_signed (size - 7) (c ∷ bytes) p.3 p.4)

-- what fits into so many further bytes, where `last` fits into the last one
abbrev pub reach : (last more : ℕ) → ℕ
reach last zero = last
reach last (suc more) = 128 * reach last more

few : (bytes : ℕ → List ℕ) (small more n : ℕ) → AreLong bytes small → n < reach small more → length (bytes n) ≤ more + 1
few bytes small zero n long h = omega (arith, long.one n h)
few bytes small (suc more) n long h =
    elim (cases_lt n small) [
      | inl l ↦ omega (arith, long.one n l)
      | inr g ↦ omega (arith, long.more n g, few bytes small more (n / 128) long (omega (arith, h)))
    ]

pub few_unsigned : (more n : ℕ) → n < reach 128 more → length (unsigned_bytes n) ≤ more + 1
few_unsigned more n = few unsigned_bytes 128 more n unsigned_long

pub few_positive : (more n : ℕ) → n < reach 64 more → length (positive_within n n) ≤ more + 1
few_positive more n = few (λ k. positive_within k k) 64 more n positive_long

pub few_negative : (more n : ℕ) → n < reach 64 more → length (negative_within n n) ≤ more + 1
few_negative more n = few (λ k. negative_within k k) 64 more n negative_long

-- at most 5 bytes for 32 bits, and 10 for 64
pub unsigned_five : (n : ℕ) → n < 2 ^ 32 → length (unsigned_bytes n) ≤ 5
unsigned_five n h = few_unsigned 4 n (omega (arith, h))

pub unsigned_ten : (n : ℕ) → n < 2 ^ 64 → length (unsigned_bytes n) ≤ 10
unsigned_ten n h = few_unsigned 9 n (omega (arith, h))
