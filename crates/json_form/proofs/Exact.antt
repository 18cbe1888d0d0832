-- What a form gives determines the value that it was read from.
use Rattle.std.proofs.Common.{◌≡◌, ℕ, suc, ◌≤◌, ℤ, pos, negsuc, List, [], ◌∷◌, map, nat_le, Bool, true, false, ◌&&◌, Option, Some, None, option_map, option_and_then, refl, sym, ap, ap₂, ◌∙◌, subst, arith}
use Rattle.std.proofs.lemmas.Bool.{leb-true, eqb-true}
use Rattle.std.proofs.lemmas.Option.{option_and_then_some}
use Rattle.serde_json.specs.Data.{unsigned, negative, Data, null, number, string, array, Items, no_items, item}
use Rattle.serde_json.specs.Events.{items_len}
use Rattle.serde_json.specs.Find.{as_str, as_number, as_array, as_u64, of_integer}
use Rattle.serde_json.specs.View.{items_of}
use Rattle.json_form.specs.Form.{given_if, between, count_form, whole_form, items_form, list_form, has_length, ◌>>=◌}

-- One form after another, both of which gave something.
pub then_some : {A B : Type 0} (o : Option A) (f : A → Option B) (b : B) → (o >>= f) ≡ Some b → (a : A) × (o ≡ Some a) × (f a ≡ Some b)
then_some (Some a) f b e = (a, refl, e)
then_some None f b e = cc

-- A test that let something through.
pub passes : {A : Type 0} (b : Bool) (a c : A) → given_if b a ≡ Some c → (b ≡ true) × (a ≡ c)
passes true a c e = (refl, cc)
passes false a c e = cc

pub both : (a b : Bool) → (a && b) ≡ true → (a ≡ true) × (b ≡ true)
both true true e = (refl, refl)
both true false e = cc
both false b e = cc

-- A whole number that was read is between the least one and the most.
pub counted : (least most : ℕ) (d : Data) (n : ℕ) → count_form least most d ≡ Some n → (least ≤ n) × (n ≤ most)
counted least most d n e =
    option_and_then_some (between least most) (option_and_then as_u64 (as_number d)) n e
    (λ m is passed.
    let p = passes (nat_le least m && nat_le m most) m n passed in
    let q = both (nat_le least m) (nat_le m most) p.0 in
    (subst (λ k. least ≤ k) p.1 (leb-true least m q.0), subst (λ k. k ≤ most) p.1 (leb-true m most q.1)))

pub count_exact : (least most : ℕ) (d : Data) (n : ℕ) → count_form least most d ≡ Some n → number (unsigned n) ≡ d
count_exact least most (number (unsigned m)) n e = ap (λ k. number (unsigned k)) (sym (passes _ m n e).1)
count_exact least most d n e = cc

pub whole_exact : (least most : ℤ) (d : Data) (z : ℤ) → whole_form least most d ≡ Some z → number (of_integer z) ≡ d
whole_exact least most (number (unsigned m)) z e = ap (λ k. number (of_integer k)) (sym (passes _ (pos m) z e).1)
whole_exact least most (number (negative (negsuc m))) z e = ap (λ k. number (of_integer k)) (sym (passes _ (negsuc m) z e).1)
whole_exact least most d z e = cc

pub text_exact : (d : Data) (s : List ℕ) → as_str d ≡ Some s → string s ≡ d
text_exact null s e = cc
text_exact d s e = cc

array_exact : (d : Data) (ds : Items) → as_array d ≡ Some ds → array ds ≡ d
array_exact null ds e = cc
array_exact d ds e = cc

items_more : {A : Type 0} (written : A → Data) (d : Data) (ds : Items) (a : A) → written a ≡ d → (o : Option (List A))
    → ((later : List A) → o ≡ Some later → items_of (map written later) ≡ ds)
    → (found : List A) → option_map (λ later. a ∷ later) o ≡ Some found → items_of (map written found) ≡ item d ds
items_more written d ds a is None same found e = cc
items_more written d ds a is (Some later) same [] e = cc
items_more written d ds a is (Some later) same (b ∷ found) e =
    let one : a ≡ b = cc in
    let more : later ≡ found = cc in
    ap₂ item (ap written (sym one) ∙ is) (ap (λ l. items_of (map written l)) (sym more) ∙ same later refl)

items_exact : {A : Type 0} (form : Data → Option A) (written : A → Data) → ((d : Data) (a : A) → form d ≡ Some a → written a ≡ d)
    → (ds : Items) (found : List A) → items_form form ds ≡ Some found → items_of (map written found) ≡ ds
items_exact form written each no_items [] e = refl
items_exact form written each no_items (a ∷ found) e = cc
items_exact form written each (item d ds) found e =
    option_and_then_some (λ a. option_map (λ later. a ∷ later) (items_form form ds)) (form d) found e
    (λ a gives rest. items_more written d ds a (each d a gives) (items_form form ds) (λ later is. items_exact form written each ds later is) found rest)

-- A list is that of its items, where each determines its own.
pub list_exact : {A : Type 0} (form : Data → Option A) (written : A → Data) → ((d : Data) (a : A) → form d ≡ Some a → written a ≡ d)
    → (d : Data) (found : List A) → list_form form d ≡ Some found → array (items_of (map written found)) ≡ d
list_exact form written each d found e =
    option_and_then_some (items_form form) (as_array d) found e
    (λ ds is gives. ap array (items_exact form written each ds found gives) ∙ array_exact d ds is)

-- Lists of a fixed length, item by item.
pub two_items : (d : Data) → has_length 2 d ≡ true → (a : Data) × (b : Data) × (d ≡ array (item a (item b no_items)))
two_items (array (item a (item b no_items))) e = (a, b, refl)
two_items (array (item a (item b (item c ds)))) e = let many : suc (suc (suc (items_len ds))) ≡ 2 = eqb-true _ _ e in absurd (omega arith)
two_items d e = cc

pub four_items : (d : Data) → has_length 4 d ≡ true → (a : Data) × (b : Data) × (c : Data) × (e : Data) × (d ≡ array (item a (item b (item c (item e no_items)))))
four_items (array (item a (item b (item c (item e no_items))))) h = (a, b, c, e, refl)
four_items (array (item a (item b (item c (item e (item f ds)))))) h =
    let many : suc (suc (suc (suc (suc (items_len ds))))) ≡ 4 = eqb-true _ _ h in absurd (omega arith)
four_items d h = cc
