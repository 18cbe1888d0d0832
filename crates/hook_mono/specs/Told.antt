-- What a hook call tells: the fields of an event, of which some are in the key, some are told in words, and one is derived.
use Rattle.std.specs.Prelude.{◌≡◌, ℕ, List, [], ◌∷◌, drop, Option}
use Rattle.wasm_num.specs.declared.ValType.{ValType}
use Rattle.wasm_num.specs.declared.ValType.TheVariants.{I32}
use Rattle.wasm_num.specs.declared.Value.{Value}
use Rattle.wasm_num.specs.declared.BlockKind.{BlockKind}
use Rattle.wasm_num.specs.declared.NumOp.{NumOp}
use Rattle.wasm_num.specs.Shapes.{num_operands, num_result}
use Rattle.module_ast.specs.Validation.{load_type, store_type}
use Rattle.module_ast.specs.declared.module.Loc.{Loc}
use Rattle.module_ast.specs.declared.ops.VarOp.{VarOp}
use Rattle.module_ast.specs.declared.ops.LoadOp.{LoadOp}
use Rattle.module_ast.specs.declared.ops.StoreOp.{StoreOp}
use Rattle.hook_select.specs.declared.GroupName.{GroupName}
use Rattle.hook_select.specs.declared.GroupName.TheVariants as groups
use Rattle.hook_select.specs.declared.Event.{Event}
use Rattle.hook_select.specs.Fields.{FieldType, place, number, signed, value, block_kind, var_op, num_op, load_op, store_op, callee, values, Each, Fields, Takes, one_by_one}
use Rattle.hook_select.specs.Events.{types_at, row_of, event_of}
use Rattle.hook_mono.specs.declared.HookKey.{HookKey}
use Rattle.hook_mono.specs.declared.HookKey.TheVariants as keys
use Rattle.hook_mono.specs.Values.{value_at, number_at, signed_at}
use Rattle.hook_mono.specs.Words.{value_types}

-- Where a field comes from of which the key says nothing: the first two words, a word, or the slot that was told before it.
pub data InPlace : Type 0 where
  in_place : InPlace

pub data InWord : Type 0 where
  in_word : InWord

pub data FromSlot : Type 0 where
  from_slot : FromSlot

-- What the key says of a field: a kind of block or an operation is in the key, and so is the type of a value, which is told in
-- words. The callee is derived from the number before it, which is a slot of the table.
abbrev pub InKey : FieldType → Type 0
InKey place = InPlace
InKey number = InWord
InKey signed = InWord
InKey value = ValType
InKey block_kind = BlockKind
InKey var_op = VarOp
InKey num_op = NumOp
InKey load_op = LoadOp
InKey store_op = StoreOp
InKey callee = FromSlot
InKey values = List ValType

-- what the calls of a hook tell: the fields of the event of this number, or values of which no event follows by themselves
pub data Told : Type 0 where
  event_told : (number : ℕ) → Each InKey (types_at number) → Told
  values_told : List ValType → Told

-- the fields of the event of this number, with what the key says of each
abbrev pub told : (number : ℕ) → Takes InKey (types_at number) Told
told n = one_by_one InKey (types_at n) (event_told n)

-- the types of the values that are told in words after the place; values whose number the key says come last
abbrev pub word_fields : (ts : List FieldType) → Each InKey ts → List ValType
word_fields [] key = []
word_fields (number ∷ ts) key = I32 ∷ word_fields ts key.1
word_fields (signed ∷ ts) key = I32 ∷ word_fields ts key.1
word_fields (value ∷ ts) key = key.0 ∷ word_fields ts key.1
word_fields (values ∷ ts) key = key.0
word_fields (_ ∷ ts) key = word_fields ts key.1

abbrev pub told_types : Told → List ValType
told_types (event_told n key) = word_fields (types_at n) key
told_types (values_told ts) = ts

-- the fields at a place, from the values that were told; `slot` is the number before, and `at` has the function in a slot
abbrev pub fields_from : (at : ℕ → Option ℕ) → Loc → (slot : ℕ) → (ts : List FieldType) → Each InKey ts → List Value → Fields ts
fields_from at loc slot [] key vs = tt
fields_from at loc slot (place ∷ ts) key vs = (loc, fields_from at loc slot ts key.1 vs)
fields_from at loc slot (number ∷ ts) key vs = (number_at vs 0, fields_from at loc (number_at vs 0) ts key.1 (drop 1 vs))
fields_from at loc slot (signed ∷ ts) key vs = (signed_at vs 0, fields_from at loc slot ts key.1 (drop 1 vs))
fields_from at loc slot (value ∷ ts) key vs = (value_at vs 0, fields_from at loc slot ts key.1 (drop 1 vs))
fields_from at loc slot (values ∷ ts) key vs = (vs, fields_from at loc slot ts key.1 [])
fields_from at loc slot (callee ∷ ts) key vs = (at slot, fields_from at loc slot ts key.1 vs)
fields_from at loc slot (block_kind ∷ ts) key vs = (key.0, fields_from at loc slot ts key.1 vs)
fields_from at loc slot (var_op ∷ ts) key vs = (key.0, fields_from at loc slot ts key.1 vs)
fields_from at loc slot (num_op ∷ ts) key vs = (key.0, fields_from at loc slot ts key.1 vs)
fields_from at loc slot (load_op ∷ ts) key vs = (key.0, fields_from at loc slot ts key.1 vs)
fields_from at loc slot (store_op ∷ ts) key vs = (key.0, fields_from at loc slot ts key.1 vs)

-- the event that is told by these values at a place
abbrev pub told_event : (at : ℕ → Option ℕ) → Told → Loc → List Value → List Event
told_event at (event_told n key) loc vs = event_of (row_of n (fields_from at loc 0 (types_at n) key vs)) ∷ []
told_event at (values_told ts) loc vs = []

-- ---- what the calls of each hook tell

abbrev pub plain_told : GroupName → Told
plain_told groups.Start = told 1 in_place
plain_told groups.Nop = told 2 in_place
plain_told groups.Unreachable = told 3 in_place
plain_told groups.If = told 4 in_place in_word
plain_told groups.Br = told 5 in_place in_word in_word
plain_told groups.BrIf = told 6 in_place in_word in_word in_word
plain_told groups.BrTable = values_told (I32 ∷ [])
plain_told groups.MemorySize = told 19 in_place in_word
plain_told groups.MemoryGrow = told 20 in_place in_word in_word
plain_told _ = values_told []

abbrev pub num_told : NumOp → (operands : List ValType) → Told
num_told op (a ∷ []) = told 11 in_place op a (num_result op)
num_told op (a ∷ b ∷ _) = told 12 in_place op a b (num_result op)
num_told op [] = values_told []

abbrev pub key_told : HookKey → Told
key_told (keys.Plain g) = plain_told g
key_told (keys.Begin kind) = told 8 in_place kind
key_told (keys.End kind) = told 9 in_place kind in_word
key_told (keys.Const t) = told 10 in_place t
key_told (keys.Num op) = num_told op (num_operands op)
key_told (keys.Drop t) = told 13 in_place t
key_told (keys.Select t) = told 14 in_place t t in_word
key_told (keys.Local op t) = told 15 in_place op in_word t
key_told (keys.Global op t) = told 16 in_place op in_word t
key_told (keys.Load op) = told 17 in_place op in_word in_word (load_type op)
key_told (keys.Store op) = told 18 in_place op in_word in_word (store_type op)
key_told (keys.CallPre ts) = told 21 in_place in_word ts
key_told (keys.IndirectPre ts) = told 22 in_place in_word in_word from_slot ts
key_told (keys.CallPost ts) = told 23 in_place ts
key_told (keys.Return ts) = told 24 in_place ts

-- the types of the values that a hook is told are those of the fields that it tells
abbrev pub TypesAreTold : Type 0
TypesAreTold = (key : HookKey) → value_types key ≡ told_types (key_told key)
