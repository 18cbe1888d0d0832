-- The text of information holds it: what is written of a value without floats is read as that value.
use Rattle.std.proofs.Common.{◌≡◌, ℕ, zero, suc, ◌^◌, ◌<◌, ◌≤◌, max, ℤ, pos, negsuc, ◌≤ℤ◌, ◌<ℤ◌, List, [], ◌∷◌, ◌++◌, map, take, drop, Bool, true, false, cond, codes, All, Option, Some, option_map, option_and_then, IsUtf8, refl, sym, ap, ap₂, ◌∙◌, subst, arith, append-nil}
use Rattle.std.specs.Prelude.{⊤}
use Rattle.std.proofs.lemmas.Int.{ints}
use Rattle.std.proofs.lemmas.List.{take-append-drop}
use Rattle.std.proofs.lemmas.List.Elements.{All-nil, All-cons, All-append, All-head, All-tail}
use Rattle.std.proofs.lemmas.Str.{IsUtf8-append, IsUtf8-from_ascii}
use Rattle.std.proofs.lemmas.Fmt.{IsAscii-decimal, IsAscii-signed}
use Rattle.std.specs.Fmt.{signed_decimal}
use Rattle.json.specs.Json as json
use Rattle.json.specs.Tree as tree
use Rattle.json.specs.Tree.{json_tokens, HasNumbers, ItemsHaveNumbers, MembersHaveNumbers}
use Rattle.json.specs.Print.{print, quoted, IsNumber}
use Rattle.json.specs.Lex.{tokens}
use Rattle.json.proofs.Printed.Tokens.{tokens-print}
use Rattle.json.proofs.Printed.Trees.{value-json_tokens, ArePrintable-json_tokens}
use Rattle.json.proofs.Printed.Decimals.{IsNumber-decimal, IsNumber-signed_decimal}
use Rattle.json.proofs.Printed.Utf8.{IsUtf8-are_ascii, IsUtf8-quoted, IsUtf8-boolean}
use Rattle.serde_json.specs.Data.{Num, unsigned, negative, float, Data, null, boolean, number, string, array, object, Items, no_items, item, Members, no_members, member, depth, items_depth, members_depth}
use Rattle.serde_json.specs.Read.{number_of, of_json, of_items, of_members, read, max_depth}
use Rattle.serde_json.specs.View.{items_of}
use Rattle.serde_json.specs.Written.{number_text, outline, items_outline, members_outline, comma_if, compact_text, items_text, members_text}
use Rattle.serde_json.proofs.Numbers.{number_of-decimal, number_of-negative}
use Rattle.serde_json.proofs.Texts.{print-outline}
use Rattle.leb_binary.specs.Texts.{Text}
use Rattle.leb_binary.proofs.Texts.{text_utf8}
use Rattle.module_ast.specs.Validation.Limits.{deepest}
use Rattle.wasm_sem.specs.Types.{ValType, BlockKind, GroupName, HookKey}
use Rattle.wasm_num.specs.declared.ValType.TheVariants.{I32, I64}
use Rattle.wasm_num.specs.declared.BlockKind.TheVariants as kinds
use Rattle.hook_select.specs.declared.GroupName.TheVariants as groups
use Rattle.wasm_num.specs.Kinds.{kind_number}
use Rattle.hook_select.specs.Groups.{groups_in, group_name}
use Rattle.hook_mono.specs.Names.{letters}
use Rattle.hook_mono.specs.Texts.{hook_text}
use Rattle.json_form.specs.Text.{IsText}
use Rattle.branch_resolve.specs.declared.Block.{Block}
use Rattle.static_info.specs.declared.TableInfo.{TableInfo}
use Rattle.static_info.specs.declared.FuncInfo.{FuncInfo}
use Rattle.static_info.specs.declared.Info.{Info}
use Rattle.static_info.specs.Form.{IsWellFormed, IsPosition, AreBlocksAfter, AreBlocks, AreLabels, AreTablesAfter, IsImported, IsDefined}
use Rattle.static_info.specs.Json.{list_of, count_data, number_data, text_data, types_data, block_data, table_data, body_data, func_data, group_data, groups_data, hook_data, info_data, TextsHoldInfos}
use Rattle.static_info.proofs.Texts.{info_shallow}

-- ---- values that are read again

-- an integer of at most 64 bits
abbrev IsSmall : Num → Type 0
IsSmall (unsigned n) = n < 2 ^ 64
IsSmall (negative (pos n)) = ⊥
IsSmall (negative (negsuc n)) = suc n < 2 ^ 63
IsSmall (float x) = ⊥

-- such integers, texts and lists
abbrev mutual
  IsExact : Data → Type 0
  IsExact null = ⊤
  IsExact (boolean b) = ⊤
  IsExact (number n) = IsSmall n
  IsExact (string s) = IsUtf8 s
  IsExact (array ds) = AreExact ds
  IsExact (object ms) = ⊥

  AreExact : Items → Type 0
  AreExact no_items = ⊤
  AreExact (item d ds) = IsExact d × AreExact ds

number_back : (n : Num) → IsSmall n → number_of (number_text n) ≡ Some n
number_back (unsigned n) h = number_of-decimal n h
number_back (negative (pos n)) h = absurd h
number_back (negative (negsuc n)) h = number_of-negative n (omega (arith, h))
number_back (float x) h = absurd h

number_is : (n : Num) → IsSmall n → IsNumber (number_text n)
number_is (unsigned n) h = IsNumber-decimal n h
number_is (negative (pos n)) h = absurd h
number_is (negative (negsuc n)) h = IsNumber-signed_decimal (negsuc n) (omega (arith, h))
number_is (float x) h = absurd h

number_utf8 : (n : Num) → IsSmall n → IsUtf8 (number_text n)
number_utf8 (unsigned n) h = IsUtf8-from_ascii (number_text (unsigned n)) (IsAscii-decimal n h)
number_utf8 (negative (pos n)) h = absurd h
number_utf8 (negative (negsuc n)) h = IsUtf8-from_ascii (signed_decimal (negsuc n)) (IsAscii-signed (negsuc n) (omega (arith, h)))
number_utf8 (float x) h = absurd h

comma_utf8 : (b : Bool) → IsUtf8 (comma_if b)
comma_utf8 true = IsUtf8-are_ascii (44 ∷ []) refl
comma_utf8 false = IsUtf8-are_ascii [] refl

mutual
  back : (d : Data) → IsExact d → of_json (outline d) ≡ Some d
  back null h = refl
  back (boolean b) h = refl
  back (number n) h = ap (option_map number) (number_back n h)
  back (string s) h = refl
  back (array ds) h = ap (option_map array) (all_back ds h)
  back (object ms) h = absurd h

  all_back : (ds : Items) → AreExact ds → of_items (items_outline ds) ≡ Some ds
  all_back no_items h = refl
  all_back (item d ds) h =
      ap (option_and_then (λ d. option_map (item d) (of_items (items_outline ds)))) (back d h.0) ∙ ap (option_map (item d)) (all_back ds h.1)

mutual
  numbers : (d : Data) → IsExact d → HasNumbers (outline d)
  numbers null h = tt
  numbers (boolean b) h = tt
  numbers (number n) h = number_is n h
  numbers (string s) h = tt
  numbers (array ds) h = all_numbers ds h
  numbers (object ms) h = absurd h

  all_numbers : (ds : Items) → AreExact ds → ItemsHaveNumbers (items_outline ds)
  all_numbers no_items h = tt
  all_numbers (item d ds) h = (numbers d h.0, all_numbers ds h.1)

mutual
  utf8 : (d : Data) → IsExact d → IsUtf8 (compact_text d)
  utf8 null h = IsUtf8-are_ascii (compact_text null) refl
  utf8 (boolean b) h = IsUtf8-boolean b
  utf8 (number n) h = number_utf8 n h
  utf8 (string s) h = IsUtf8-quoted s h
  utf8 (array ds) h = IsUtf8-append (91 ∷ []) (items_text false ds) (IsUtf8-are_ascii (91 ∷ []) refl) (all_utf8 false ds h)
  utf8 (object ms) h = absurd h

  all_utf8 : (later : Bool) (ds : Items) → AreExact ds → IsUtf8 (items_text later ds)
  all_utf8 later no_items h = IsUtf8-are_ascii (93 ∷ []) refl
  all_utf8 later (item d ds) h = IsUtf8-append (comma_if later) _ (comma_utf8 later) (IsUtf8-append (compact_text d) (items_text true ds) (utf8 d h.0) (all_utf8 true ds h.1))

-- an outline nests as deep as its value
mutual
  same_depth : (d : Data) → tree.depth (outline d) ≡ depth d
  same_depth null = refl
  same_depth (boolean b) = refl
  same_depth (number n) = refl
  same_depth (string s) = refl
  same_depth (array ds) = ap suc (same_items ds)
  same_depth (object ms) = ap suc (same_members ms)

  same_items : (ds : Items) → tree.items_depth (items_outline ds) ≡ items_depth ds
  same_items no_items = refl
  same_items (item d ds) = ap₂ max (same_depth d) (same_items ds)

  same_members : (ms : Members) → tree.members_depth (members_outline ms) ≡ members_depth ms
  same_members no_members = refl
  same_members (member k d ms) = ap₂ max (same_depth d) (same_members ms)

-- the text of a value is read as the value
text_back : (d : Data) → depth d ≤ 127 → HasNumbers (outline d) → of_json (outline d) ≡ Some d → read (compact_text d) ≡ Some d
text_back d shallow are back =
    let ts = json_tokens (outline d) in
    let told : tokens (compact_text d) ≡ ts ++ [] = ap tokens (sym (print-outline d)) ∙ tokens-print ts (ArePrintable-json_tokens (outline d) are) ∙ sym (append-nil ts) in
    let whole : json.value max_depth (tokens (compact_text d)) ≡ Some (outline d, []) = ap (json.value max_depth) told ∙ value-json_tokens (outline d) max_depth [] (subst (λ n. n ≤ 127) (sym (same_depth d)) shallow) in
    ap (λ p. option_and_then of_json (option_and_then (λ p. json.if_last p.0 p.1) p)) whole ∙ back

-- ---- an object

member_utf8 : (later : Bool) (k : List ℕ) (d : Data) (ms : Members) → IsUtf8 k → IsUtf8 (compact_text d) → IsUtf8 (members_text true ms) → IsUtf8 (members_text later (member k d ms))
member_utf8 later k d ms key value more =
    IsUtf8-append (comma_if later) _ (comma_utf8 later)
    (IsUtf8-append (quoted k) (58 ∷ (compact_text d ++ members_text true ms)) (IsUtf8-quoted k key)
    (IsUtf8-append (58 ∷ []) (compact_text d ++ members_text true ms) (IsUtf8-are_ascii (58 ∷ []) refl) (IsUtf8-append (compact_text d) (members_text true ms) value more)))

-- an object of six values
abbrev six : (a b c e f g : Data) → Data
six a b c e f g =
    object
    (member (codes "dropped") a
    (member (codes "functions") b
    (member (codes "groups") c
    (member (codes "hooks") e
    (member (codes "imports") f
    (member (codes "version") g no_members))))))

six_back : (a b c e f g : Data) → of_json (outline a) ≡ Some a → of_json (outline b) ≡ Some b → of_json (outline c) ≡ Some c → of_json (outline e) ≡ Some e → of_json (outline f) ≡ Some f → of_json (outline g) ≡ Some g
    → of_json (outline (six a b c e f g)) ≡ Some (six a b c e f g)
six_back a b c e f g ha hb hc he hf hg = rw (ha, hb, hc, he, hf, hg) refl

six_utf8 : (a b c e f g : Data) → IsUtf8 (compact_text a) → IsUtf8 (compact_text b) → IsUtf8 (compact_text c) → IsUtf8 (compact_text e) → IsUtf8 (compact_text f) → IsUtf8 (compact_text g)
    → IsUtf8 (compact_text (six a b c e f g))
six_utf8 a b c e f g ha hb hc he hf hg =
    let m1 = member (codes "version") g no_members in
    let m2 = member (codes "imports") f m1 in
    let m3 = member (codes "hooks") e m2 in
    let m4 = member (codes "groups") c m3 in
    let m5 = member (codes "functions") b m4 in
    let m6 = member (codes "dropped") a m5 in
    IsUtf8-append (123 ∷ []) (members_text false m6) (IsUtf8-are_ascii (123 ∷ []) refl)
    (member_utf8 false (codes "dropped") a m5 (IsUtf8-are_ascii (codes "dropped") refl) ha
    (member_utf8 true (codes "functions") b m4 (IsUtf8-are_ascii (codes "functions") refl) hb
    (member_utf8 true (codes "groups") c m3 (IsUtf8-are_ascii (codes "groups") refl) hc
    (member_utf8 true (codes "hooks") e m2 (IsUtf8-are_ascii (codes "hooks") refl) he
    (member_utf8 true (codes "imports") f m1 (IsUtf8-are_ascii (codes "imports") refl) hf
    (member_utf8 true (codes "version") g no_members (IsUtf8-are_ascii (codes "version") refl) hg (IsUtf8-are_ascii (125 ∷ []) refl)))))))

-- ---- the parts of information

-- a list of values that are
list_exact : {A : Type 0} (written : A → Data) (items : List A) → All (λ a. IsExact (written a)) items → AreExact (items_of (map written items))
list_exact written [] h = tt
list_exact {A} written (a ∷ items) h =
    let P : A → Type 0 = λ a. IsExact (written a) in
    (All-head P a items h, list_exact written items (All-tail P a items h))

-- each of any list
each_exact : {A : Type 0} (written : A → Data) → ((a : A) → IsExact (written a)) → (items : List A) → AreExact (items_of (map written items))
each_exact written each [] = tt
each_exact written each (a ∷ items) = (each a, each_exact written each items)

letters_utf8 : (ts : List ValType) → IsUtf8 (letters ts)
letters_utf8 [] = IsUtf8-are_ascii [] refl
letters_utf8 (I32 ∷ ts) = IsUtf8-append (105 ∷ []) (letters ts) (IsUtf8-are_ascii (105 ∷ []) refl) (letters_utf8 ts)
letters_utf8 (I64 ∷ ts) = IsUtf8-append (108 ∷ []) (letters ts) (IsUtf8-are_ascii (108 ∷ []) refl) (letters_utf8 ts)

kind_small : (k : BlockKind) → kind_number k < 2 ^ 64
kind_small kinds.Function = omega arith
kind_small k = omega arith

place_small : (z : ℤ) → IsPosition z → IsExact (number_data z)
place_small (pos n) h = let low = h.1 in omega (arith, ints)
place_small (negsuc n) h = let low = h.0 in absurd (omega (arith, ints))

block_exact : (b : Block) → IsExact (number_data b.begin) → IsPosition b.end → IsPosition b.target → IsExact (block_data b)
block_exact b begin end target = (kind_small b.kind, (begin, (place_small b.end end, (place_small b.target target, tt))))

abbrev IsBlockExact : Block → Type 0
IsBlockExact b = IsExact (block_data b)

later_blocks : (last : ℤ) (bs : List Block) → AreBlocksAfter last bs → All IsBlockExact bs
later_blocks last [] h = All-nil IsBlockExact
later_blocks last (b ∷ bs) h = All-cons IsBlockExact b bs (block_exact b (place_small b.begin h.2) h.3 h.4) (later_blocks b.begin bs h.5)

all_blocks : (bs : List Block) → AreBlocks bs → All IsBlockExact bs
all_blocks [] h = absurd h
all_blocks (b ∷ bs) h =
    let small : IsExact (number_data (negsuc 0)) = omega arith in
    let start : IsExact (number_data b.begin) = subst (λ z. IsExact (number_data z)) (sym h.1) small in
    All-cons IsBlockExact b bs (block_exact b start h.2 h.3) (later_blocks (negsuc 0) bs h.4)

labels_exact : (labels : List ℕ) → All (λ l. l ≤ deepest) labels → AreExact (items_of (map count_data labels))
labels_exact labels h = list_exact count_data labels (λ k d within. let low = h k d within in omega (arith, low))

abbrev IsTableExact : TableInfo → Type 0
IsTableExact t = IsExact (table_data t)

all_tables : (last : ℤ) (ts : List TableInfo) → AreTablesAfter last ts → All IsTableExact ts
all_tables last [] h = All-nil IsTableExact
all_tables last (t ∷ ts) h = All-cons IsTableExact t ts (place_small t.pos h.1, (labels_exact t.labels h.2.1, tt)) (all_tables t.pos ts h.3)

abbrev data_with : Bool → FuncInfo → Data
data_with b f = list_of (types_data f.params ∷ types_data f.results ∷ body_data b f)

defined_exact : (f : FuncInfo) → IsDefined f → IsExact (func_data f)
defined_exact f h =
    let whole : IsExact (data_with true f) = (letters_utf8 f.params, (letters_utf8 f.results, (list_exact block_data f.blocks (all_blocks f.blocks h.1), (list_exact table_data f.tables (all_tables (negsuc 0) f.tables h.2), tt)))) in
    subst (λ b. IsExact (data_with b f)) (sym h.0) whole

imported_exact : (f : FuncInfo) → IsImported f → IsExact (func_data f)
imported_exact f h =
    let whole : IsExact (data_with false f) = (letters_utf8 f.params, (letters_utf8 f.results, tt)) in
    subst (λ b. IsExact (data_with b f)) (sym h.0) whole

abbrev IsFuncExact : FuncInfo → Type 0
IsFuncExact f = IsExact (func_data f)

funcs_exact : (imports : ℕ) (functions : List FuncInfo) → All IsImported (take imports functions) → All IsDefined (drop imports functions) → AreExact (items_of (map func_data functions))
funcs_exact imports functions imported defined =
    let first : All IsFuncExact (take imports functions) = λ k d within. imported_exact _ (imported k d within) in
    let later : All IsFuncExact (drop imports functions) = λ k d within. defined_exact _ (defined k d within) in
    list_exact func_data functions (subst (All IsFuncExact) (take-append-drop imports functions) (All-append IsFuncExact _ _ first later))

group_utf8 : (g : GroupName) → IsUtf8 (group_name g)
group_utf8 groups.Start = IsUtf8-are_ascii (group_name groups.Start) refl
group_utf8 g = IsUtf8-are_ascii (group_name g) refl

-- ---- information

-- The text of information holds it.
pub info_held : TextsHoldInfos
info_held info h =
    let a = list_of (map text_data info.dropped) in
    let b = list_of (map func_data info.functions) in
    let c = groups_data info.groups in
    let e = list_of (map hook_data info.hooks) in
    let f = count_data info.imports in
    let g = count_data 1 in
    let ha : IsExact a = each_exact text_data (λ t. text_utf8 t) info.dropped in
    let hb : IsExact b = funcs_exact info.imports info.functions h.imported h.defined in
    let hc : IsExact c = each_exact group_data group_utf8 (groups_in info.groups) in
    let he : IsExact e = each_exact hook_data (λ k. text_utf8 (hook_text k)) info.hooks in
    let hf : IsExact f = omega (arith, h.enough, h.count) in
    let hg : IsExact g = omega arith in
    let are : HasNumbers (outline (info_data info)) = (numbers a ha, (numbers b hb, (numbers c hc, (numbers e he, (numbers f hf, (numbers g hg, tt)))))) in (
      info_data info,
      record {
        utf8 = six_utf8 a b c e f g (utf8 a ha) (utf8 b hb) (utf8 c hc) (utf8 e he) (utf8 f hf) (utf8 g hg);
        read = text_back (info_data info) (info_shallow info) are (six_back a b c e f g (back a ha) (back b hb) (back c hc) (back e he) (back f hf) (back g hg));
      },
      (h, refl),
    )
