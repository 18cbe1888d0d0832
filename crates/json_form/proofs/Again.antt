-- What is written of a value is read again.
use Rattle.std.proofs.Common.{◌≡◌, ℕ, ◌≤◌, ℤ, pos, negsuc, int_le, ◌≤ℤ◌, List, [], ◌∷◌, map, nat_le, Bool, true, false, T, ◌&&◌, All, Option, Some, option_map, option_and_then, refl, ap, ◌∙◌}
use Rattle.std.proofs.lemmas.Bool.{le-leb}
use Rattle.std.proofs.lemmas.List.Elements.{All-head, All-tail}
use Rattle.serde_json.specs.Data.{unsigned, Data, number, array}
use Rattle.serde_json.specs.Find.{of_integer}
use Rattle.serde_json.specs.View.{items_of}
use Rattle.json_form.specs.Form.{given_if, count_form, whole_form, items_form, list_form, ◌>>=◌}

-- One form after another.
pub then_gives : {A B : Type 0} (o : Option A) (f : A → Option B) (a : A) (b : B) → o ≡ Some a → f a ≡ Some b → (o >>= f) ≡ Some b
then_gives o f a b first later = ap (λ p. p >>= f) first ∙ later

lets_through : {A : Type 0} (x y : Bool) (a : A) → x ≡ true → y ≡ true → given_if (x && y) a ≡ Some a
lets_through true true a e f = refl
lets_through true false a e f = cc
lets_through false y a e f = cc

holds : (x : Bool) → T x → x ≡ true
holds true t = refl
holds false t = absurd t

below : (a b : ℤ) → a ≤ℤ b → int_le a b ≡ true
below a b h = holds (int_le a b) h.le

pub count_again : (least most n : ℕ) → least ≤ n → n ≤ most → count_form least most (number (unsigned n)) ≡ Some n
count_again least most n low high = lets_through (nat_le least n) (nat_le n most) n (le-leb least n low) (le-leb n most high)

pub whole_again : (least most z : ℤ) → least ≤ℤ z → z ≤ℤ most → whole_form least most (number (of_integer z)) ≡ Some z
whole_again least most (pos n) low high = lets_through (int_le least (pos n)) (int_le (pos n) most) (pos n) (below _ _ low) (below _ _ high)
whole_again least most (negsuc n) low high = lets_through (int_le least (negsuc n)) (int_le (negsuc n) most) (negsuc n) (below _ _ low) (below _ _ high)

items_again : {A : Type 0} (form : Data → Option A) (written : A → Data) (items : List A)
    → All (λ a. form (written a) ≡ Some a) items → items_form form (items_of (map written items)) ≡ Some items
items_again {A} form written [] h = refl
items_again {A} form written (a ∷ items) h =
    let P : A → Type 0 = λ a. form (written a) ≡ Some a in
    ap (option_and_then (λ b. option_map (λ later. b ∷ later) (items_form form (items_of (map written items))))) (All-head P a items h)
    ∙ ap (option_map (λ later. a ∷ later)) (items_again form written items (All-tail P a items h))

-- A list is read again, where each item is.
pub list_again : {A : Type 0} (form : Data → Option A) (written : A → Data) (items : List A)
    → All (λ a. form (written a) ≡ Some a) items → list_form form (array (items_of (map written items))) ≡ Some items
list_again form written items h = items_again form written items h
