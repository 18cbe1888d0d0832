-- Forms: what a value of JSON is read as, if it has the form.
use Rattle.std.specs.Prelude.{◌≡◌, ℕ, List, [], ◌∷◌, Result, Ok, Err, Option, Some, None, option_map, option_and_then, Bool, true, false, ◌||◌, ◌&&◌, ◌==◌, bytes_eq, ℤ, pos, negsuc, int_le, nat_le, refl}
use Rattle.std.specs.Str.{is_utf8}
use Rattle.serde_json.specs.Data.{Num, unsigned, negative, float, Data, array, object, Items, no_items, item, Members, no_members, member}
use Rattle.serde_json.specs.Find.{get, at, as_str, as_number, as_integer, as_u64, as_array}
use Rattle.serde_json.specs.Events.{items_len}
use Rattle.leb_binary.specs.Texts.{Text}
use Rattle.json_form.specs.declared.form.FormFault.{FormFault}
use Rattle.json_form.specs.declared.form.FormFault.TheVariants.{Wrong, NoMemory}

-- what was read is what the form reads
abbrev pub ReadsForm : {A : Type 0} → Result A FormFault → Option A → Type 0
ReadsForm (Ok a) form = form ≡ Some a
ReadsForm (Err Wrong) form = form ≡ None
ReadsForm (Err NoMemory) form = Unit {0}

-- each item by the form
abbrev pub items_form : {A : Type 0} → (Data → Option A) → Items → Option (List A)
items_form form no_items = Some []
items_form form (item d ds) = option_and_then (λ a. option_map (λ later. a ∷ later) (items_form form ds)) (form d)

-- a list of values of the form
abbrev pub list_form : {A : Type 0} → (Data → Option A) → Data → Option (List A)
list_form form d = option_and_then (items_form form) (as_array d)

-- the text with these bytes, if they are UTF-8
abbrev pub text_if : (bytes : List ℕ) → (b : Bool) → is_utf8 bytes ≡ b → Option Text
text_if bytes true e = Some (record { bytes = bytes; utf8 = e })
text_if bytes false e = None

-- a text
abbrev pub text_form : Data → Option Text
text_form d = option_and_then (λ bytes. text_if bytes (is_utf8 bytes) refl) (as_str d)

-- Whole numbers.

-- a signed or unsigned whole number of 64 bits
abbrev pub integer_form : Data → Option ℤ
integer_form d = option_and_then as_integer (as_number d)

abbrev pub given_if : {A : Type 0} → Bool → A → Option A
given_if false a = None
given_if true a = Some a

abbrev pub between : (least most n : ℕ) → Option ℕ
between least most n = given_if (nat_le least n && nat_le n most) n

-- a whole number from `least` to `most`
abbrev pub count_form : (least most : ℕ) → Data → Option ℕ
count_form least most d = option_and_then (between least most) (option_and_then as_u64 (as_number d))

-- a whole number; values of JSON have no second way to write one from 0 up
abbrev pub whole_of : Num → Option ℤ
whole_of (unsigned n) = Some (pos n)
whole_of (negative (pos n)) = None
whole_of (negative (negsuc n)) = Some (negsuc n)
whole_of (float x) = None

abbrev pub whole_between : (least most z : ℤ) → Option ℤ
whole_between least most z = given_if (int_le least z && int_le z most) z

-- a whole number from `least` to `most`, which may be negative
abbrev pub whole_form : (least most : ℤ) → Data → Option ℤ
whole_form least most d = option_and_then (whole_between least most) (option_and_then whole_of (as_number d))

-- Lists of a fixed length.

abbrev pub has_length : (count : ℕ) → Data → Bool
has_length count (array ds) = items_len ds == count
has_length count _ = false

abbrev pub only_length : (count : ℕ) → Data → Option Unit
only_length count d = given_if (has_length count d) (tt {0})

-- what the list has at this place from 0 on, by the form
abbrev pub item_form : {A : Type 0} → (place : ℕ) → (Data → Option A) → Data → Option A
item_form place form d = option_and_then form (at place d)

-- Objects with fixed keys.

abbrev pub is_key_among : List (List ℕ) → List ℕ → Bool
is_key_among [] k = false
is_key_among (name ∷ names) k = bytes_eq name k || is_key_among names k

abbrev pub only_members : List (List ℕ) → Members → Bool
only_members names no_members = true
only_members names (member k d ms) = is_key_among names k && only_members names ms

-- an object whose keys are all among these names
abbrev pub has_only : List (List ℕ) → Data → Bool
has_only names (object ms) = only_members names ms
has_only names _ = false

abbrev pub only_keys : List (List ℕ) → Data → Option Unit
only_keys names d = given_if (has_only names d) (tt {0})

-- what the object has at the key, by the form
abbrev pub field_form : {A : Type 0} → (key : List ℕ) → (Data → Option A) → Data → Option A
field_form key form d = option_and_then form (get key d)

-- likewise, if the key may be absent
abbrev pub form_or : {A : Type 0} → (absent : A) → (Data → Option A) → Option Data → Option A
form_or absent form None = Some absent
form_or absent form (Some d) = form d

abbrev pub field_or : {A : Type 0} → (key : List ℕ) → (absent : A) → (Data → Option A) → Data → Option A
field_or key absent form d = form_or absent form (get key d)

-- Forms one after another.
infixl 10 ◌>>=◌
abbrev pub ◌>>=◌ : {A B : Type 0} → Option A → (A → Option B) → Option B
(Some a) >>= f = f a
None >>= f = None
