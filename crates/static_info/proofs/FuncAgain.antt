-- The information of a function is read again from its value.
use Rattle.std.proofs.Common.{◌≡◌, ℕ, ◌-◌, ◌^◌, ◌≤◌, take, drop, ℤ, pos, negsuc, ◌≤ℤ◌, ◌<ℤ◌, List, [], ◌∷◌, map, Bool, true, false, All, Option, Some, option_map, refl, sym, ap, ◌∙◌, subst, arith}
use Rattle.std.proofs.lemmas.Int.{ints}
use Rattle.std.proofs.lemmas.List.{take-append-drop}
use Rattle.std.proofs.lemmas.List.Elements.{All-nil, All-cons, All-append}
use Rattle.module_ast.specs.Validation.Limits.{deepest}
use Rattle.wasm_sem.specs.Types.{ValType, BlockKind}
use Rattle.wasm_num.specs.declared.ValType.TheVariants.{I32, I64}
use Rattle.wasm_num.specs.declared.BlockKind.TheVariants.{Function}
use Rattle.serde_json.specs.Data.{Data}
use Rattle.wasm_num.specs.Kinds.{kind_number}
use Rattle.hook_mono.specs.Names.{letters}
use Rattle.hook_mono.specs.Reading.{letter_types}
use Rattle.branch_resolve.specs.declared.Block.{Block as BlockInfo}
use Rattle.json_form.specs.Form.{list_form}
use Rattle.json_form.proofs.Again.{then_gives, count_again, whole_again, list_again}
use Rattle.static_info.specs.declared.TableInfo.{TableInfo}
use Rattle.static_info.specs.declared.FuncInfo.{FuncInfo}
use Rattle.static_info.specs.Form.{IsPosition, AreBlocksAfter, AreBlocks, AreLabels, AreTablesAfter, IsImported, IsDefined}
use Rattle.static_info.specs.Json.{list_of, count_data, number_data, types_data, block_data, table_data, body_data, func_data}
use Rattle.static_info.specs.Shape.{kind_form, position_form, label_form, block_form, table_form, func_form}

types_again : (ts : List ValType) → letter_types (letters ts) ≡ Some ts
types_again [] = refl
types_again (I32 ∷ ts) = ap (option_map (λ later. I32 ∷ later)) (types_again ts)
types_again (I64 ∷ ts) = ap (option_map (λ later. I64 ∷ later)) (types_again ts)

kind_again : (k : BlockKind) → kind_form (count_data (kind_number k)) ≡ Some k
kind_again Function = refl
kind_again k = refl

position_again : (z : ℤ) → negsuc 0 ≤ℤ z → z <ℤ pos (2 ^ 31) → position_form (number_data z) ≡ Some z
position_again z low high = whole_again (negsuc 0) (pos (2 ^ 31 - 1)) z low (omega (arith, ints))

position_from : (z : ℤ) → IsPosition z → position_form (number_data z) ≡ Some z
position_from z h = let low = h.0 in let high = h.1 in position_again z (omega (arith, ints)) h.1

block_again : (b : BlockInfo) → position_form (number_data b.begin) ≡ Some b.begin → IsPosition b.end → IsPosition b.target → block_form (block_data b) ≡ Some b
block_again b begin end target =
    then_gives _ _ b.kind b (kind_again b.kind)
    (then_gives _ _ b.begin b begin
    (then_gives _ _ b.end b (position_from b.end end)
    (then_gives _ _ b.target b (position_from b.target target) refl)))

abbrev IsBlockAgain : BlockInfo → Type 0
IsBlockAgain b = block_form (block_data b) ≡ Some b

later_blocks : (last : ℤ) (bs : List BlockInfo) → AreBlocksAfter last bs → All IsBlockAgain bs
later_blocks last [] h = All-nil IsBlockAgain
later_blocks last (b ∷ bs) h = All-cons IsBlockAgain b bs (block_again b (position_from b.begin h.2) h.3 h.4) (later_blocks b.begin bs h.5)

all_blocks : (bs : List BlockInfo) → AreBlocks bs → All IsBlockAgain bs
all_blocks [] h = absurd h
all_blocks (b ∷ bs) h =
    let start : position_form (number_data b.begin) ≡ Some b.begin = subst (λ z. position_form (number_data z) ≡ Some z) (sym h.1) refl in
    All-cons IsBlockAgain b bs (block_again b start h.2 h.3) (later_blocks (negsuc 0) bs h.4)

labels_again : (labels : List ℕ) → All (λ l. l ≤ deepest) labels → list_form label_form (list_of (map count_data labels)) ≡ Some labels
labels_again labels h = list_again label_form count_data labels (λ k d within. count_again 0 deepest _ (omega arith) (h k d within))

table_again : (t : TableInfo) → IsPosition t.pos → AreLabels t.labels → table_form (table_data t) ≡ Some t
table_again t position labels =
    then_gives _ _ t.pos t (position_from t.pos position)
    (then_gives _ _ t.labels t (labels_again t.labels labels.1) refl)

abbrev IsTableAgain : TableInfo → Type 0
IsTableAgain t = table_form (table_data t) ≡ Some t

all_tables : (last : ℤ) (ts : List TableInfo) → AreTablesAfter last ts → All IsTableAgain ts
all_tables last [] h = All-nil IsTableAgain
all_tables last (t ∷ ts) h = All-cons IsTableAgain t ts (table_again t h.1 h.2) (all_tables t.pos ts h.3)

abbrev data_with : Bool → FuncInfo → Data
data_with b f = list_of (types_data f.params ∷ types_data f.results ∷ body_data b f)

defined_again : (f : FuncInfo) → IsDefined f → func_form (func_data f) ≡ Some f
defined_again f h =
    let whole : ◌≡◌ {A = Option FuncInfo} (Some (record f { defined = true })) (Some f) = ap (λ b. Some (record f { defined = b })) (sym h.0) in
    ap (λ b. func_form (data_with b f)) h.0
    ∙ then_gives _ _ f.params f (types_again f.params)
    (then_gives _ _ f.results f (types_again f.results)
    (then_gives _ _ f.blocks f (list_again block_form block_data f.blocks (all_blocks f.blocks h.1))
    (then_gives _ _ f.tables f (list_again table_form table_data f.tables (all_tables (negsuc 0) f.tables h.2)) whole)))

abbrev with_parts : FuncInfo → Bool → List BlockInfo → List TableInfo → Option FuncInfo
with_parts f b blocks tables = Some (record f { defined = b; blocks = blocks; tables = tables })

imported_again : (f : FuncInfo) → IsImported f → func_form (func_data f) ≡ Some f
imported_again f h =
    let whole : with_parts f false [] [] ≡ Some f =
    ap (λ b. with_parts f b [] []) (sym h.0) ∙ ap (λ blocks. with_parts f f.defined blocks []) (sym h.1) ∙ ap (with_parts f f.defined f.blocks) (sym h.2) in
    ap (λ b. func_form (data_with b f)) h.0
    ∙ then_gives _ _ f.params f (types_again f.params) (then_gives _ _ f.results f (types_again f.results) whole)

abbrev IsAgain : FuncInfo → Type 0
IsAgain f = func_form (func_data f) ≡ Some f

-- The functions of information, the imported ones first, are read again from their list.
pub funcs_again : (imports : ℕ) (functions : List FuncInfo) → All IsImported (take imports functions) → All IsDefined (drop imports functions)
    → list_form func_form (list_of (map func_data functions)) ≡ Some functions
funcs_again imports functions imported defined =
    let first : All IsAgain (take imports functions) = λ k d within. imported_again _ (imported k d within) in
    let later : All IsAgain (drop imports functions) = λ k d within. defined_again _ (defined k d within) in
    list_again func_form func_data functions (subst (All IsAgain) (take-append-drop imports functions) (All-append IsAgain _ _ first later))
