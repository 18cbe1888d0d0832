-- Temporaries, and how many there are of each type.
use Rattle.std.proofs.Common.{◌≡◌, ℕ, ◌+◌, ◌<◌, List, [], ◌∷◌, ◌++◌, length, take, drop, get_or, refl, ap, ◌∙◌, arith}
use Rattle.std.proofs.lemmas.List.{take_more, at_drop_more}
use Rattle.wasm_num.specs.declared.ValType.{ValType}
use Rattle.wasm_num.specs.declared.ValType.TheVariants.{I32, I64}
use Rattle.i64_split.specs.declared.Pool.{Pool}
use Rattle.i64_split.specs.Split.{temps_from, pool_local, ints_in, longs_in}

-- each type is one of the two
pub counts_of_both : (ts : List ValType) → ints_in ts + longs_in ts ≡ length ts
counts_of_both [] = refl
counts_of_both (I32 ∷ ts) = omega (arith, counts_of_both ts)
counts_of_both (I64 ∷ ts) = omega (arith, counts_of_both ts)

-- one more at the end
pub ints_in-push_int : (ts : List ValType) → ints_in (ts ++ I32 ∷ []) ≡ ints_in ts + 1
ints_in-push_int [] = refl
ints_in-push_int (I32 ∷ ts) = omega (arith, ints_in-push_int ts)
ints_in-push_int (I64 ∷ ts) = ints_in-push_int ts

pub ints_in-push_long : (ts : List ValType) → ints_in (ts ++ I64 ∷ []) ≡ ints_in ts
ints_in-push_long [] = refl
ints_in-push_long (I32 ∷ ts) = omega (arith, ints_in-push_long ts)
ints_in-push_long (I64 ∷ ts) = ints_in-push_long ts

pub longs_in-push_int : (ts : List ValType) → longs_in (ts ++ I32 ∷ []) ≡ longs_in ts
longs_in-push_int [] = refl
longs_in-push_int (I32 ∷ ts) = longs_in-push_int ts
longs_in-push_int (I64 ∷ ts) = omega (arith, longs_in-push_int ts)

pub longs_in-push_long : (ts : List ValType) → longs_in (ts ++ I64 ∷ []) ≡ longs_in ts + 1
longs_in-push_long [] = refl
longs_in-push_long (I32 ∷ ts) = longs_in-push_long ts
longs_in-push_long (I64 ∷ ts) = omega (arith, longs_in-push_long ts)

-- the last temporary is the one behind those of its type
pub temps_from-push_int : (pool : Pool) (a b n : ℕ) (ts : List ValType) → n ≡ a + ints_in ts → temps_from pool a b (ts ++ I32 ∷ []) ≡ temps_from pool a b ts ++ record { ty = I32; local = pool_local pool I32 n } ∷ []
temps_from-push_int pool a b n [] e = ap (λ (k : ℕ). record { ty = I32; local = pool_local pool I32 k } ∷ []) (omega arith)
temps_from-push_int pool a b n (I32 ∷ ts) e = ap (λ l. record { ty = I32; local = pool_local pool I32 a } ∷ l) (temps_from-push_int pool (a + 1) b n ts (omega arith))
temps_from-push_int pool a b n (I64 ∷ ts) e = ap (λ l. record { ty = I64; local = pool_local pool I64 b } ∷ l) (temps_from-push_int pool a (b + 1) n ts e)

pub temps_from-push_long : (pool : Pool) (a b n : ℕ) (ts : List ValType) → n ≡ b + longs_in ts → temps_from pool a b (ts ++ I64 ∷ []) ≡ temps_from pool a b ts ++ record { ty = I64; local = pool_local pool I64 n } ∷ []
temps_from-push_long pool a b n [] e = ap (λ (k : ℕ). record { ty = I64; local = pool_local pool I64 k } ∷ []) (omega arith)
temps_from-push_long pool a b n (I32 ∷ ts) e = ap (λ l. record { ty = I32; local = pool_local pool I32 a } ∷ l) (temps_from-push_long pool (a + 1) b n ts e)
temps_from-push_long pool a b n (I64 ∷ ts) e = ap (λ l. record { ty = I64; local = pool_local pool I64 b } ∷ l) (temps_from-push_long pool a (b + 1) n ts (omega arith))

-- the types up to one of them
pub take_next : (ts : List ValType) (k left : ℕ) (d t : ValType) → left ≡ k + 1 → k < length ts → get_or ts k d ≡ t → take left ts ≡ take k ts ++ t ∷ []
take_next ts k left d t e h is = ap (λ n. take n ts) e ∙ take_more ts k d h ∙ ap (λ u. take k ts ++ u ∷ []) is

-- how many there are up to one type, and behind it
pub up_to_int : (ts : List ValType) (k left : ℕ) (d : ValType) → left ≡ k + 1 → k < length ts → get_or ts k d ≡ I32
    → (ints_in (take left ts) ≡ ints_in (take k ts) + 1) × (longs_in (take left ts) ≡ longs_in (take k ts))
up_to_int ts k left d e h is =
    let front = take_next ts k left d I32 e h is in
    (ap ints_in front ∙ ints_in-push_int (take k ts), ap longs_in front ∙ longs_in-push_int (take k ts))

pub up_to_long : (ts : List ValType) (k left : ℕ) (d : ValType) → left ≡ k + 1 → k < length ts → get_or ts k d ≡ I64
    → (ints_in (take left ts) ≡ ints_in (take k ts)) × (longs_in (take left ts) ≡ longs_in (take k ts) + 1)
up_to_long ts k left d e h is =
    let front = take_next ts k left d I64 e h is in
    (ap ints_in front ∙ ints_in-push_long (take k ts), ap longs_in front ∙ longs_in-push_long (take k ts))

pub from_int : (ts : List ValType) (k : ℕ) (d : ValType) → k < length ts → get_or ts k d ≡ I32
    → (ints_in (drop k ts) ≡ ints_in (drop (k + 1) ts) + 1) × (longs_in (drop k ts) ≡ longs_in (drop (k + 1) ts))
from_int ts k d h is =
    (at_drop_more ints_in ts k d h ∙ ap (λ t. ints_in (t ∷ drop (k + 1) ts)) is, at_drop_more longs_in ts k d h ∙ ap (λ t. longs_in (t ∷ drop (k + 1) ts)) is)

pub from_long : (ts : List ValType) (k : ℕ) (d : ValType) → k < length ts → get_or ts k d ≡ I64
    → (ints_in (drop k ts) ≡ ints_in (drop (k + 1) ts)) × (longs_in (drop k ts) ≡ longs_in (drop (k + 1) ts) + 1)
from_long ts k d h is =
    (at_drop_more ints_in ts k d h ∙ ap (λ t. ints_in (t ∷ drop (k + 1) ts)) is, at_drop_more longs_in ts k d h ∙ ap (λ t. longs_in (t ∷ drop (k + 1) ts)) is)
