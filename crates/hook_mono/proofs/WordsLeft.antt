-- The words of a hook call that are left.
--     word_here      the next word of a call
--     no_word        no word after the last
--     no_long        no value of 64 bits stands there
use Rattle.std.proofs.Common.{◌≡◌, ℕ, zero, suc, ◌+◌, ◌<◌, List, [], ◌∷◌, length, drop, get_or, Some, None, slice_get, refl, ap, ◌∙◌, subst, arith}
use Rattle.std.proofs.lemmas.List.{drop_more, length-map}
use Rattle.std.proofs.lemmas.Option.{slice_get_within, get_or_from_slice_get}
use Rattle.wasm_num.specs.declared.Value.{Value}
use Rattle.wasm_num.specs.declared.Value.TheVariants.{I32, I64}
use Rattle.hook_mono.specs.Values.{IsWord, AreWords, value_number, numbers}

-- the next word
pub word_here : (args : List Value) (n w : ℕ) → slice_get args n ≡ Some (I32 w) → drop n (numbers args) ≡ w ∷ drop (n + 1) (numbers args)
word_here args n w e =
    let within = slice_get_within args n (I32 w) e in
    let at = get_or_from_slice_get args n (I32 w) (I32 0) e in
    drop_more (numbers args) n 0 (omega (arith, length-map args value_number))
    ∙ ap (λ x. x ∷ drop (n + 1) (numbers args)) (number_in args n within ∙ ap value_number at)
  where
    number_in : (vs : List Value) (k : ℕ) → k < length vs → get_or (numbers vs) k 0 ≡ value_number (get_or vs k (I32 0))
    number_in [] k l = absurd (omega arith)
    number_in (v ∷ vs) zero l = refl
    number_in (v ∷ vs) (suc k) l = number_in vs k (omega arith)

-- no word after the last
pub no_word : (args : List Value) (n : ℕ) → slice_get args n ≡ None → drop n (numbers args) ≡ []
no_word [] zero e = refl
no_word [] (suc n) e = refl
no_word (v ∷ vs) zero e = cc
no_word (v ∷ vs) (suc n) e = no_word vs n e

-- no value of 64 bits stands there
pub no_long : (args : List Value) (n m : ℕ) → AreWords args → slice_get args n ≡ Some (I64 m) → ⊥
no_long args n m h e = subst IsWord (get_or_from_slice_get args n (I64 m) (I32 0) e) (h n (I32 0) (slice_get_within args n (I64 m) e))
