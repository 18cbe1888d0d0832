-- How many bytes the numbers of emitted code have at most.
--     signed_short, constant_short      a number of 32 bits, and any constant
--     mapped_short      the index of a called function, against the one that it had
--     temps_near, near_short      the locals of temporaries
use Rattle.std.proofs.Common.{◌≡◌, ℕ, ◌+◌, ◌-◌, ◌*◌, ◌/◌, ◌^◌, ◌<◌, ◌≤◌, ◌⊎◌, inl, inr, ℤ, pos, negsuc, List, [], ◌∷◌, length, Bool, true, false, cond, ltb, refl, ap, suc, arith}
use Rattle.std.specs.Prelude.{nat_lt}
use Rattle.std.specs.List.{AllByRecursion}
use Rattle.std.specs.Int.{w32, cast_signed}
use Rattle.std.proofs.lemmas.Bool.Decides.{nat_tests}
use Rattle.std.proofs.lemmas.Bool.{cases_lt}
use mir.Val.{sel}
use Rattle.leb_binary.specs.Leb.{IsInSize}
use Rattle.leb_binary.specs.Shortest.{unsigned_bytes, signed_bytes}
use Rattle.leb_binary.proofs.Lengths.{few_positive, few_negative, longer_unsigned, unsigned_ten}
use Rattle.leb_binary.proofs.Written.{unsigned_next}
use Rattle.wasm_sem.specs.Types.{ValType}
use Rattle.wasm_num.specs.declared.ValType.TheVariants.{I32, I64}
use Rattle.module_ast.specs.Binary.{plain_bytes}
use Rattle.i64_split.specs.declared.Pool.{Pool}
use Rattle.i64_split.specs.declared.Temp.{Temp}
use Rattle.i64_split.specs.Split.{temps_from, temps}
use Rattle.index_remap.specs.declared.Remap.{Remap}
use Rattle.index_remap.specs.Remap.{map_index}
use Rattle.rewrite.specs.Setting.{constant}

-- a number of 32 bits
pub signed_short : (z : ℤ) → IsInSize 32 z → length (signed_bytes z) ≤ 5
signed_short (pos n) h = few_positive 4 n (omega (arith, h))
signed_short (negsuc n) h = few_negative 4 n (omega (arith, h))

-- a constant is one
pub constant_fits : (n : ℕ) → IsInSize 32 (cast_signed w32 n)
constant_fits n = by_half (ltb n (2 ^ 31)) (λ e. grind (arith, nat_tests)) (λ e. grind (arith, nat_tests))
  where
    by_half : (b : Bool) → (b ≡ true → n < 2 ^ 31) → (b ≡ false → 2 ^ 31 ≤ n) → IsInSize 32 (sel b (pos n) (negsuc (2 ^ 32 - suc n)))
    by_half true f g = f refl
    by_half false f g = let l = g refl in omega arith

pub constant_short : (n : ℕ) → length (plain_bytes (constant n)) ≤ 6
constant_short n = omega (arith, signed_short (cast_signed w32 n) (constant_fits n))

-- an index that hooks are put before
moved_short : (added f : ℕ) → added < 2 ^ 32 → length (unsigned_bytes (f + added)) ≤ length (unsigned_bytes f) + 10
moved_short added f h = go (cases_lt f (2 ^ 32))
  where
    go : (f < 2 ^ 32) ⊎ (2 ^ 32 ≤ f) → length (unsigned_bytes (f + added)) ≤ length (unsigned_bytes f) + 10
    go (inl l) = omega (arith, unsigned_ten (f + added) (omega arith))
    go (inr g) =
        let same : 128 * f / 128 ≡ f = omega arith in
        omega (arith, longer_unsigned (f + added) (128 * f) (omega arith), ap length (unsigned_next (128 * f) (omega arith)), ap (λ n. length (unsigned_bytes n)) same)

pub mapped_short : (r : Remap) (f : ℕ) → r.added < 2 ^ 32 → length (unsigned_bytes (map_index r f)) ≤ length (unsigned_bytes f) + 10
mapped_short r f h = go (nat_lt f r.imports)
  where
    go : (b : Bool) → length (unsigned_bytes (cond b f (f + r.added))) ≤ length (unsigned_bytes f) + 10
    go true = omega arith
    go false = moved_short r.added f h

-- ---- temporaries

abbrev pub IsNear : Temp → Type 0
IsNear t = t.local < 2 ^ 64

abbrev pub AreNear : List Temp → Type 0
AreNear ts = AllByRecursion IsNear ts

pub near_short : (t : Temp) → IsNear t → length (unsigned_bytes t.local) ≤ 10
near_short t h = unsigned_ten t.local h

-- those of not too many types, where the pool's own locals have 32 bits
from_near : (pool : Pool) (a b : ℕ) (tys : List ValType) → pool.base + pool.ints + pool.longs < 2 ^ 32 → a + length tys ≤ 2 ^ 32 → b + length tys ≤ 2 ^ 32 → AreNear (temps_from pool a b tys)
from_near pool a b [] l h k = tt
from_near pool a b (I32 ∷ tys) l h k = (omega arith, from_near pool (a + 1) b tys l (omega arith) (omega arith))
from_near pool a b (I64 ∷ tys) l h k = (omega arith, from_near pool a (b + 1) tys l (omega arith) (omega arith))

pub temps_near : (pool : Pool) (tys : List ValType) → pool.base + pool.ints + pool.longs < 2 ^ 32 → length tys ≤ 2 ^ 32 → AreNear (temps pool tys)
temps_near pool tys l h = from_near pool 0 0 tys l (omega (arith, h)) (omega (arith, h))
