-- The number that a text writes in digits alone, as `parse` reads it.
use Rattle.std.proofs.Common.{◌≡◌, ◌∙◌, ℕ, ◌^◌, ◌<◌, List, [], ◌∷◌, length, Bool, true, false, cond, ◌==◌, ◌&&◌, nat_lt, refl, sym, ap, subst, drop, slice_index, Some, None, Result, Ok, Err}
use Rattle.std.specs.List.{list_all}
use Rattle.std.specs.Char.{digit_value}
use Rattle.std.specs.Result.{OkIff, result_ok}
use Rattle.std.specs.Str.Parse.{AllDigits, IsNumeral, ParsesUnsigned, digits_value, without_leading_plus}
use Rattle.std.proofs.lemmas.Bool.{ltb-true, lt-ltb, eqb-true}
use Rattle.clap.proofs.WalkLemmas.{both}
use Rattle.wasabi_app.specs.Modes.Trial.{trial_number}

digits_from : (ds : List ℕ) → list_all (λ d. nat_lt (digit_value d) 10) ds ≡ true → AllDigits 10 ds
digits_from [] e = tt
digits_from (d ∷ ds) e = let parts = both _ _ e in (ltb-true _ _ parts.0, digits_from ds parts.1)

digits_back : (ds : List ℕ) → AllDigits 10 ds → list_all (λ d. nat_lt (digit_value d) 10) ds ≡ true
digits_back [] h = refl
digits_back (d ∷ ds) h = rw (lt-ltb (digit_value d) 10 h.0) (digits_back ds h.1)

-- a numeral of 64 bits
abbrev Suits : (text : List ℕ) → Type 0
Suits text = IsNumeral 10 text × (digits_value 10 text < 2 ^ 64)

abbrev tests : (text : List ℕ) → Bool
tests text = (nat_lt 0 (length text) && list_all (λ d. nat_lt (digit_value d) 10) text) && nat_lt (digits_value 10 text) (2 ^ 64)

suits_tests : (text : List ℕ) → Suits text → tests text ≡ true
suits_tests text h = rw (lt-ltb _ _ h.0.0, digits_back _ h.0.1, lt-ltb _ _ h.1) refl

tests_suits : (text : List ℕ) → tests text ≡ true → Suits text
tests_suits text e =
    let a = both _ _ e in
    let num = both _ _ a.0 in
    ((ltb-true _ _ num.0, digits_from _ num.1), ltb-true _ _ a.1)

-- what is read of a text without a plus in front
read_plain : {E : Type 0} (text : List ℕ) (r : Result ℕ E) → OkIff r (Suits text) (digits_value 10 text) → result_ok r ≡ trial_number text
read_plain text (Ok n) h = ap Some h.1 ∙ sym (ap (λ b. cond b (Some (digits_value 10 text)) None) (suits_tests text h.0))
read_plain text (Err e) never = by (tests text) refl
  where
    by : (b : Bool) → tests text ≡ b → None ≡ cond b (Some (digits_value 10 text)) None
    by true is = absurd (never (tests_suits text is))
    by false is = refl

pub number_read : {E : Type 0} (text : List ℕ) (r : Result ℕ E) → ParsesUnsigned 64 10 text r → (slice_index text 0 == 43) ≡ false → result_ok r ≡ trial_number text
number_read text r h plain =
    let whole : without_leading_plus text ≡ text = ap (λ b. drop (cond b 1 0) text) plain in
    read_plain text r (subst (λ w. OkIff r (Suits w) (digits_value 10 w)) whole h)

-- a plus in front is no digit
none_by : (b c : Bool) (n : ℕ) → None ≡ cond ((b && false) && c) (Some n) None
none_by true c n = refl
none_by false c n = refl

pub plus_is_none : (text : List ℕ) → (slice_index text 0 == 43) ≡ true → None ≡ trial_number text
plus_is_none [] e = refl
plus_is_none (c ∷ cs) e =
    subst (λ d. None ≡ trial_number (d ∷ cs)) (sym (eqb-true c 43 e))
    (none_by (nat_lt 0 (length (43 ∷ cs))) (nat_lt (digits_value 10 (43 ∷ cs)) (2 ^ 64)) (digits_value 10 (43 ∷ cs)))
