-- The texts of pieces: numbers, ranges and names.
use Rattle.std.proofs.Common.{rules, ◌≡◌, ◌≢◌, ◌∙◌, ℕ, ◌+◌, ◌-◌, ◌^◌, ◌<◌, ◌==◌, List, [], ◌∷◌, ◌++◌, length, Bool, true, false, cond, not, ◌&&◌, nat_lt, refl, sym, ap, arith, Some, None, Result, Ok, Err, take, get_or}
use Rattle.std.specs.List.{list_all}
use Rattle.std.specs.Char.{is_ascii_digit}
use Rattle.std.specs.Result.{OkIff, result_ok}
use Rattle.std.specs.Str.Parse.{ParsesUnsigned, digits_value}
use Rattle.std.proofs.lemmas.Bool.{ltb-true, lt-ltb, eqb-true}
use Rattle.std.proofs.lemmas.List.{take_more, take_all}
use Rattle.std.proofs.lemmas.Str.Parse.{IsNumeralModel, numerals_by_value, parse_digits}
use Rattle.function_list.specs.Pieces.{ends_in_star, is_digits, name, name_of, number_of}

-- ---- a number

digits : IsNumeralModel (λ ds. list_all is_ascii_digit ds ≡ true) (digits_value 10)
digits = numerals_by_value _ (search rules)

all_are : (text : List ℕ) → is_digits text ≡ true → list_all is_ascii_digit text ≡ true
all_are [] d = cc
all_are (b ∷ bs) d = by (not (length (b ∷ bs) == 0)) d
  where
    by : (a : Bool) → (a && list_all is_ascii_digit (b ∷ bs)) ≡ true → list_all is_ascii_digit (b ∷ bs) ≡ true
    by true e = e
    by false e = cc

pub number_read : {E : Type 0} (text : List ℕ) (r : Result ℕ E) → ParsesUnsigned 32 10 text r → is_digits text ≡ true → result_ok r ≡ number_of text
number_read text r h d = by r (parse_digits digits 32 text r h (all_are text d))
  where
    some : (text : List ℕ) → is_digits text ≡ true → 0 < length text
    some [] d = cc
    some (b ∷ bs) d = omega arith

    by : {E : Type 0} (r : Result ℕ E) → OkIff r ((0 < length text) × (digits_value 10 text < 2 ^ 32)) (digits_value 10 text) → result_ok r ≡ number_of text
    by (Ok n) k = ap Some k.1 ∙ sym (ap (λ b. cond b (Some (digits_value 10 text)) None) (lt-ltb (digits_value 10 text) (2 ^ 32) k.0.1))
    by (Err e) never = pick (nat_lt (digits_value 10 text) (2 ^ 32)) refl
      where
        pick : (b : Bool) → nat_lt (digits_value 10 text) (2 ^ 32) ≡ b → None ≡ cond b (Some (digits_value 10 text)) None
        pick true is = absurd (never (some text d, ltb-true (digits_value 10 text) (2 ^ 32) is))
        pick false is = refl

-- ---- a name

-- no text is in front of a `*` that is not there
pub no_star : (text : List ℕ) → (length text == 0) ≡ false → ((front : List ℕ) → text ≢ front ++ (42 ∷ [])) → name_of text ≡ Some (name text)
no_star [] some none = cc
no_star (b ∷ bs) some none = by (ends_in_star (b ∷ bs)) refl
  where
    at_end : take (length bs + 1) (b ∷ bs) ≡ take (length bs) (b ∷ bs) ++ get_or (b ∷ bs) (length bs) 0 ∷ []
    at_end = take_more (b ∷ bs) (length bs) 0 (omega arith)

    whole : ends_in_star (b ∷ bs) ≡ true → (b ∷ bs) ≡ take (length bs) (b ∷ bs) ++ 42 ∷ []
    whole is =
        sym (take_all (length bs + 1) (b ∷ bs) (omega arith)) ∙ at_end
        ∙ ap (λ x. take (length bs) (b ∷ bs) ++ x ∷ []) (eqb-true (get_or (b ∷ bs) (length bs) 0) 42 last)
      where
        place : length (b ∷ bs) - 1 ≡ length bs
        place = omega arith

        last : (get_or (b ∷ bs) (length bs) 0 == 42) ≡ true
        last = ap (λ n. get_or (b ∷ bs) n 0 == 42) (sym place) ∙ is

    by : (s : Bool) → ends_in_star (b ∷ bs) ≡ s → name_of (b ∷ bs) ≡ Some (name (b ∷ bs))
    by true is = absurd (none (take (length bs) (b ∷ bs)) (whole is))
    by false is = rw is refl
