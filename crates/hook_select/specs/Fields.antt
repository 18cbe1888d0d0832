-- The fields of events: what they contain, and what there is for each of several, of which functions take it one by one.
use Rattle.std.specs.Prelude.{ℕ, ℤ, List, [], ◌∷◌, Option}
use Rattle.wasm_num.specs.declared.Value.{Value}
use Rattle.wasm_num.specs.declared.BlockKind.{BlockKind}
use Rattle.wasm_num.specs.declared.NumOp.{NumOp}
use Rattle.module_ast.specs.declared.module.Loc.{Loc}
use Rattle.module_ast.specs.declared.ops.VarOp.{VarOp}
use Rattle.module_ast.specs.declared.ops.LoadOp.{LoadOp}
use Rattle.module_ast.specs.declared.ops.StoreOp.{StoreOp}

-- what a field contains
pub data FieldType : Type 0 where
  place : FieldType
  number : FieldType
  signed : FieldType
  value : FieldType
  block_kind : FieldType
  var_op : FieldType
  num_op : FieldType
  load_op : FieldType
  store_op : FieldType
  callee : FieldType
  values : FieldType

abbrev pub FieldOf : FieldType → Type 0
FieldOf place = Loc
FieldOf number = ℕ
FieldOf signed = ℤ
FieldOf value = Value
FieldOf block_kind = BlockKind
FieldOf var_op = VarOp
FieldOf num_op = NumOp
FieldOf load_op = LoadOp
FieldOf store_op = StoreOp
FieldOf callee = Option ℕ
FieldOf values = List Value

-- something for each of these fields, one after the other
abbrev pub Each : (FieldType → Type 0) → List FieldType → Type 0
Each F [] = Unit {0}
Each F (t ∷ ts) = F t × Each F ts

-- a function that takes it one by one
abbrev pub Takes : (FieldType → Type 0) → List FieldType → Type 0 → Type 0
Takes F [] A = A
Takes F (t ∷ ts) A = F t → Takes F ts A

-- what it gives for all of it
abbrev pub given : {A : Type 0} → (F : FieldType → Type 0) → (ts : List FieldType) → Takes F ts A → Each F ts → A
given F [] f each = f
given F (t ∷ ts) f each = given F ts (f each.0) each.1

-- a function of all of it, as one that takes it one by one
abbrev pub one_by_one : {A : Type 0} → (F : FieldType → Type 0) → (ts : List FieldType) → (Each F ts → A) → Takes F ts A
one_by_one F [] f = f tt
one_by_one F (t ∷ ts) f = λ x. one_by_one F ts (λ each. f (x, each))

-- fields of these types
abbrev pub Fields : List FieldType → Type 0
Fields ts = Each FieldOf ts
