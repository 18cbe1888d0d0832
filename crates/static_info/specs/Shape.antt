-- The shape of the JSON value of information, before its positions are compared.
use Rattle.std.specs.Prelude.{◌-◌, ◌^◌, ◌==◌, ◌&&◌, ℕ, ℤ, pos, negsuc, List, [], ◌∷◌, length, fold, Bool, true, false, cond, codes, bytes_eq, Option, Some, option_and_then}
use Rattle.module_ast.specs.Validation.Limits.{deepest}
use Rattle.wasm_sem.specs.Types.{ValType, BlockKind, GroupName, Hooks, HookKey}
use Rattle.wasm_num.specs.Kinds.{kind_of_number}
use Rattle.serde_json.specs.Data.{Data, object, Members, no_members, member}
use Rattle.serde_json.specs.Find.{as_str}
use Rattle.hook_select.specs.Groups.{group_eq, group_named, groups_in, hooks_of, with_group}
use Rattle.hook_mono.specs.Keys.{distinct_keys}
use Rattle.hook_mono.specs.Reading.{letter_types, key_named}
use Rattle.json_form.specs.Form.{count_form, whole_form, list_form, text_form, field_form, given_if, has_length, only_length, item_form, ◌>>=◌}
use Rattle.branch_resolve.specs.declared.Block.{Block}
use Rattle.static_info.specs.declared.TableInfo.{TableInfo}
use Rattle.static_info.specs.declared.FuncInfo.{FuncInfo}
use Rattle.static_info.specs.declared.Info.{Info}

-- ---- functions

abbrev pub types_form : Data → Option (List ValType)
types_form d = option_and_then letter_types (as_str d)

abbrev pub kind_form : Data → Option BlockKind
kind_form d = option_and_then kind_of_number (count_form 0 4 d)

-- a position, which is -1 at the entry of a function
abbrev pub position_form : Data → Option ℤ
position_form d = whole_form (negsuc 0) (pos (2 ^ 31 - 1)) d

abbrev pub label_form : Data → Option ℕ
label_form d = count_form 0 deepest d

abbrev pub block_form : Data → Option Block
block_form d = do
  four ← only_length 4 d
  kind ← item_form 0 kind_form d
  begin ← item_form 1 position_form d
  end ← item_form 2 position_form d
  target ← item_form 3 position_form d
  Some (record { kind = kind; begin = begin; end = end; target = target })

abbrev pub table_form : Data → Option TableInfo
table_form d = do
  two ← only_length 2 d
  position ← item_form 0 position_form d
  labels ← item_form 1 (list_form label_form) d
  Some (record { pos = position; labels = labels })

abbrev pub imported_form : Data → Option FuncInfo
imported_form d = do
  two ← only_length 2 d
  params ← item_form 0 types_form d
  results ← item_form 1 types_form d
  Some (record { params = params; results = results; defined = false; blocks = []; tables = [] })

abbrev pub defined_form : Data → Option FuncInfo
defined_form d = do
  params ← item_form 0 types_form d
  results ← item_form 1 types_form d
  blocks ← item_form 2 (list_form block_form) d
  tables ← item_form 3 (list_form table_form) d
  Some (record { params = params; results = results; defined = true; blocks = blocks; tables = tables })

-- a list of four items is a defined function
abbrev pub func_form : Data → Option FuncInfo
func_form d = cond (has_length 4 d) (defined_form d) (imported_form d)

-- ---- groups

abbrev pub group_form : Data → Option GroupName
group_form d = option_and_then group_named (as_str d)

abbrev pub same_groups : List GroupName → List GroupName → Bool
same_groups [] [] = true
same_groups [] (h ∷ hs) = false
same_groups (g ∷ gs) [] = false
same_groups (g ∷ gs) (h ∷ hs) = group_eq g h && same_groups gs hs

abbrev pub set_of_groups : List GroupName → Hooks
set_of_groups gs = fold with_group (hooks_of (λ g. false)) gs

-- the set of these groups, if they are in their fixed order without repeats
abbrev pub ordered_set : List GroupName → Option Hooks
ordered_set gs = given_if (same_groups gs (groups_in (set_of_groups gs))) (set_of_groups gs)

abbrev pub groups_form : Data → Option Hooks
groups_form d = list_form group_form d >>= ordered_set

-- ---- hooks

abbrev pub hook_form : Data → Option HookKey
hook_form d = option_and_then key_named (as_str d)

-- these keys, if no key occurs twice
abbrev pub distinct_form : List HookKey → Option (List HookKey)
distinct_form keys = given_if (length (distinct_keys keys) == length keys) keys

abbrev pub hooks_form : Data → Option (List HookKey)
hooks_form d = list_form hook_form d >>= distinct_form

-- ---- the whole

abbrev pub keys_of : Members → List (List ℕ)
keys_of no_members = []
keys_of (member k d ms) = k ∷ keys_of ms

abbrev pub same_names : List (List ℕ) → List (List ℕ) → Bool
same_names [] [] = true
same_names [] (y ∷ ys) = false
same_names (x ∷ xs) [] = false
same_names (x ∷ xs) (y ∷ ys) = bytes_eq x y && same_names xs ys

-- an object with exactly these keys; the keys of each object are in order
abbrev pub has_exactly : List (List ℕ) → Data → Bool
has_exactly names (object ms) = same_names names (keys_of ms)
has_exactly names _ = false

abbrev pub info_keys : List (List ℕ)
info_keys = codes "dropped" ∷ codes "functions" ∷ codes "groups" ∷ codes "hooks" ∷ codes "imports" ∷ codes "version" ∷ []

abbrev pub info_shape : Data → Option Info
info_shape d = do
  keys ← given_if (has_exactly info_keys d) (tt {0})
  version ← field_form (codes "version") (count_form 1 1) d
  imports ← field_form (codes "imports") (count_form 0 (2 ^ 32 - 1)) d
  groups ← field_form (codes "groups") groups_form d
  hooks ← field_form (codes "hooks") hooks_form d
  functions ← field_form (codes "functions") (list_form func_form) d
  dropped ← field_form (codes "dropped") (list_form text_form) d
  Some (record { groups = groups; imports = imports; hooks = hooks; functions = functions; dropped = dropped })
