-- The information of a function determines its value.
use Rattle.std.proofs.Common.{◌≡◌, ◌⊎◌, inl, inr, ℕ, ◌-◌, ◌^◌, ◌==◌, ℤ, pos, negsuc, List, [], ◌∷◌, Bool, true, false, cond, Option, Some, None, option_map, refl, sym, ap, ap₂, ◌∙◌}
use Rattle.std.proofs.lemmas.Bool.{eqb-true}
use Rattle.std.proofs.lemmas.Option.{option_and_then_some}
use Rattle.module_ast.specs.Validation.Limits.{deepest}
use Rattle.wasm_sem.specs.Types.{ValType, BlockKind}
use Rattle.wasm_num.specs.declared.ValType.TheVariants.{I32, I64}
use Rattle.serde_json.specs.Data.{Data, string, array, item, no_items}
use Rattle.serde_json.specs.Find.{as_str}
use Rattle.wasm_num.specs.Kinds.{kind_number, kind_of_number}
use Rattle.wasm_num.proofs.Opcodes.{kind_exact}
use Rattle.hook_mono.specs.Names.{letter, letters}
use Rattle.hook_mono.specs.Reading.{letter_type, letter_types}
use Rattle.branch_resolve.specs.declared.Block.{Block}
use Rattle.json_form.specs.Form.{only_length, item_form, has_length, list_form, count_form}
use Rattle.json_form.proofs.Exact.{then_some, passes, count_exact, whole_exact, text_exact, list_exact, two_items, four_items}
use Rattle.static_info.specs.declared.TableInfo.{TableInfo}
use Rattle.static_info.specs.declared.FuncInfo.{FuncInfo}
use Rattle.static_info.specs.Json.{list_of, count_data, number_data, types_data, block_data, table_data, func_data}
use Rattle.static_info.specs.Shape.{types_form, kind_form, position_form, label_form, block_form, table_form, imported_form, defined_form, func_form}

-- Which way a test went.
chosen : {A : Type 0} (b : Bool) (x y z : A) → cond b x y ≡ z → ((b ≡ true) × (x ≡ z)) ⊎ ((b ≡ false) × (y ≡ z))
chosen true x y z e = inl (refl, e)
chosen false x y z e = inr (refl, e)

letter_exact : (b : ℕ) (t : ValType) → letter_type b ≡ Some t → letter t ≡ b
letter_exact b t e =
    elim (chosen (b == 105) _ _ (Some t) e) [
      | inl h ↦ let is : I32 ≡ t = cc in ap letter (sym is) ∙ sym (eqb-true b 105 h.0)
      | inr h ↦ elim (chosen (b == 108) _ _ (Some t) h.1) [
        | inl i ↦ let is : I64 ≡ t = cc in ap letter (sym is) ∙ sym (eqb-true b 108 i.0)
        | inr i ↦ cc
      ]
    ]

mapped_some : {A B : Type 0} (f : A → B) (o : Option A) (b : B) → option_map f o ≡ Some b → (a : A) × (o ≡ Some a) × (f a ≡ b)
mapped_some f None b e = cc
mapped_some f (Some a) b e = (a, refl, cc)

types_exact : (bs : List ℕ) (ts : List ValType) → letter_types bs ≡ Some ts → letters ts ≡ bs
types_exact [] [] e = refl
types_exact [] (t ∷ ts) e = cc
types_exact (b ∷ bs) ts e =
    option_and_then_some (λ t. option_map (λ later. t ∷ later) (letter_types bs)) (letter_type b) ts e
    (λ t first rest.
    let later = mapped_some (λ later. t ∷ later) (letter_types bs) ts rest in
    ap letters (sym later.2) ∙ ap₂ (λ x xs. x ∷ xs) (letter_exact b t first) (types_exact bs later.0 later.1))

types_data_exact : (d : Data) (ts : List ValType) → types_form d ≡ Some ts → types_data ts ≡ d
types_data_exact d ts e = option_and_then_some letter_types (as_str d) ts e (λ s is gives. ap string (types_exact s ts gives) ∙ text_exact d s is)

kind_form_exact : (d : Data) (k : BlockKind) → kind_form d ≡ Some k → count_data (kind_number k) ≡ d
kind_form_exact d k e = option_and_then_some kind_of_number (count_form 0 4 d) k e (λ n is gives. ap count_data (kind_exact n k gives) ∙ count_exact 0 4 d n is)

position_exact : (d : Data) (z : ℤ) → position_form d ≡ Some z → number_data z ≡ d
position_exact d z e = whole_exact (negsuc 0) (pos (2 ^ 31 - 1)) d z e

label_exact : (d : Data) (n : ℕ) → label_form d ≡ Some n → count_data n ≡ d
label_exact d n e = count_exact 0 deepest d n e

-- an item of a list whose items are known
at_item : {A : Type 0} (d known : Data) (place : ℕ) (form : Data → Option A) (a : A) → d ≡ known → item_form place form d ≡ Some a → item_form place form known ≡ Some a
at_item d known place form a is e = ap (item_form place form) (sym is) ∙ e

two_parts : (a b x y : Data) → a ≡ x → b ≡ y → list_of (a ∷ b ∷ []) ≡ array (item x (item y no_items))
two_parts a b x y e f = cc

four_parts : (a b c d x y z w : Data) → a ≡ x → b ≡ y → c ≡ z → d ≡ w → list_of (a ∷ b ∷ c ∷ d ∷ []) ≡ array (item x (item y (item z (item w no_items))))
four_parts a b c d x y z w e f g h = cc

pub block_exact : (d : Data) (b : Block) → block_form d ≡ Some b → block_data b ≡ d
block_exact d b e =
    let four = then_some (only_length 4 d) _ b e in
    let shape = four_items d (passes (has_length 4 d) (tt {0}) four.0 four.1).0 in
    let kind = then_some (item_form 0 kind_form d) _ b four.2 in
    let begin = then_some (item_form 1 position_form d) _ b kind.2 in
    let end = then_some (item_form 2 position_form d) _ b begin.2 in
    let target = then_some (item_form 3 position_form d) _ b end.2 in
    let is : ◌≡◌ {A = Block} (record { kind = kind.0; begin = begin.0; end = end.0; target = target.0 }) b = cc (target.2) in
    ap block_data (sym is) ∙ four_parts _ _ _ _ shape.0 shape.1 shape.2 shape.3
    (kind_form_exact shape.0 kind.0 (at_item d _ 0 kind_form kind.0 shape.4 kind.1))
    (position_exact shape.1 begin.0 (at_item d _ 1 position_form begin.0 shape.4 begin.1))
    (position_exact shape.2 end.0 (at_item d _ 2 position_form end.0 shape.4 end.1))
    (position_exact shape.3 target.0 (at_item d _ 3 position_form target.0 shape.4 target.1))
    ∙ sym shape.4

pub table_exact : (d : Data) (t : TableInfo) → table_form d ≡ Some t → table_data t ≡ d
table_exact d t e =
    let two = then_some (only_length 2 d) _ t e in
    let shape = two_items d (passes (has_length 2 d) (tt {0}) two.0 two.1).0 in
    let position = then_some (item_form 0 position_form d) _ t two.2 in
    let labels = then_some (item_form 1 (list_form label_form) d) _ t position.2 in
    let is : ◌≡◌ {A = TableInfo} (record { pos = position.0; labels = labels.0 }) t = cc (labels.2) in
    ap table_data (sym is) ∙ two_parts _ _ shape.0 shape.1
    (position_exact shape.0 position.0 (at_item d _ 0 position_form position.0 shape.2 position.1))
    (list_exact label_form count_data label_exact shape.1 labels.0 (at_item d _ 1 (list_form label_form) labels.0 shape.2 labels.1))
    ∙ sym shape.2

imported_exact : (d : Data) (f : FuncInfo) → imported_form d ≡ Some f → func_data f ≡ d
imported_exact d f e =
    let two = then_some (only_length 2 d) _ f e in
    let shape = two_items d (passes (has_length 2 d) (tt {0}) two.0 two.1).0 in
    let params = then_some (item_form 0 types_form d) _ f two.2 in
    let results = then_some (item_form 1 types_form d) _ f params.2 in
    let is : ◌≡◌ {A = FuncInfo} (record { params = params.0; results = results.0; defined = false; blocks = []; tables = [] }) f = cc (results.2) in
    ap func_data (sym is) ∙ two_parts _ _ shape.0 shape.1
    (types_data_exact shape.0 params.0 (at_item d _ 0 types_form params.0 shape.2 params.1))
    (types_data_exact shape.1 results.0 (at_item d _ 1 types_form results.0 shape.2 results.1))
    ∙ sym shape.2

defined_exact : (d : Data) (f : FuncInfo) → has_length 4 d ≡ true → defined_form d ≡ Some f → func_data f ≡ d
defined_exact d f four e =
    let shape = four_items d four in
    let params = then_some (item_form 0 types_form d) _ f e in
    let results = then_some (item_form 1 types_form d) _ f params.2 in
    let blocks = then_some (item_form 2 (list_form block_form) d) _ f results.2 in
    let tables = then_some (item_form 3 (list_form table_form) d) _ f blocks.2 in
    let is : ◌≡◌ {A = FuncInfo} (record { params = params.0; results = results.0; defined = true; blocks = blocks.0; tables = tables.0 }) f = cc (tables.2) in
    ap func_data (sym is) ∙ four_parts _ _ _ _ shape.0 shape.1 shape.2 shape.3
    (types_data_exact shape.0 params.0 (at_item d _ 0 types_form params.0 shape.4 params.1))
    (types_data_exact shape.1 results.0 (at_item d _ 1 types_form results.0 shape.4 results.1))
    (list_exact block_form block_data block_exact shape.2 blocks.0 (at_item d _ 2 (list_form block_form) blocks.0 shape.4 blocks.1))
    (list_exact table_form table_data table_exact shape.3 tables.0 (at_item d _ 3 (list_form table_form) tables.0 shape.4 tables.1))
    ∙ sym shape.4

-- A function that was read is written as the value that it was read from.
pub func_exact : (d : Data) (f : FuncInfo) → func_form d ≡ Some f → func_data f ≡ d
func_exact d f e =
    elim (chosen (has_length 4 d) (defined_form d) (imported_form d) (Some f) e) [ inl h ↦ defined_exact d f h.0 h.1 | inr h ↦ imported_exact d f h.1 ]
