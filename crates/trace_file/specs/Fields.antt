-- The fields of an event: their bytes, in which each number has its shortest spelling, and their ranges.
use Rattle.std.specs.Prelude.{ℕ, ◌^◌, ◌<◌, ◌==◌, ℤ, List, [], ◌∷◌, ◌++◌, length, flat_map, find, Option, Some, None}
use Rattle.std.specs.List.{AllByRecursion}
use Rattle.std.specs.Int.{w32, w64, cast_signed}
use Rattle.leb_binary.specs.Leb.{IsInSize}
use Rattle.leb_binary.specs.Shortest.{unsigned_bytes, signed_bytes}
use Rattle.wasm_num.specs.declared.Value.{Value}
use Rattle.wasm_num.specs.declared.Value.TheVariants.{I32, I64}
use Rattle.module_ast.specs.declared.module.Loc.{Loc}
use Rattle.module_ast.specs.declared.ops.VarOp.{VarOp}
use Rattle.module_ast.specs.declared.ops.VarOp.TheVariants.{Get, Set, Tee}
use Rattle.wasm_num.specs.Opcodes.{num_opcode}
use Rattle.module_ast.specs.Binary.{load_opcode, store_opcode}
use Rattle.wasm_num.specs.Kinds.{kind_number}
use Rattle.hook_select.specs.Fields.{FieldType, place, number, signed, value, block_kind, var_op, num_op, load_op, store_op, callee, values, FieldOf, Fields}

-- a function, and a position in it
abbrev pub place_bytes : Loc → List ℕ
place_bytes loc = unsigned_bytes loc.func ++ signed_bytes loc.instr

-- the byte of its type, and its bits as a signed number
abbrev pub value_bytes : Value → List ℕ
value_bytes (I32 n) = 0x7F ∷ signed_bytes (cast_signed w32 n)
value_bytes (I64 n) = 0x7E ∷ signed_bytes (cast_signed w64 n)

abbrev pub var_number : VarOp → ℕ
var_number Get = 0
var_number Set = 1
var_number Tee = 2

-- all accesses to variables, in the order of their numbers
abbrev pub var_ops : List VarOp
var_ops = Get ∷ Set ∷ Tee ∷ []

-- the access to a variable that has this number
abbrev pub var_of_number : ℕ → Option VarOp
var_of_number n = find (λ op. var_number op == n) var_ops

-- a byte that says whether there is a callee, and then the callee
abbrev pub callee_bytes : Option ℕ → List ℕ
callee_bytes None = 0x00 ∷ []
callee_bytes (Some n) = 0x01 ∷ unsigned_bytes n

-- the number of the values, and then each value
abbrev pub values_bytes : List Value → List ℕ
values_bytes vs = unsigned_bytes (length vs) ++ flat_map value_bytes vs

abbrev pub field_bytes : (t : FieldType) → FieldOf t → List ℕ
field_bytes place loc = place_bytes loc
field_bytes number n = unsigned_bytes n
field_bytes signed z = signed_bytes z
field_bytes value v = value_bytes v
field_bytes block_kind k = kind_number k ∷ []
field_bytes var_op op = var_number op ∷ []
field_bytes num_op op = num_opcode op ∷ []
field_bytes load_op op = load_opcode op ∷ []
field_bytes store_op op = store_opcode op ∷ []
field_bytes callee c = callee_bytes c
field_bytes values vs = values_bytes vs

-- the bytes of fields of these types, one after the other
abbrev pub bytes_of : (ts : List FieldType) → Fields ts → List ℕ
bytes_of [] fields = []
bytes_of (t ∷ ts) fields = field_bytes t fields.0 ++ bytes_of ts fields.1

-- Fields that fit: their numbers are of their sizes.
abbrev pub FitsNumber : ℕ → Type 0
FitsNumber n = n < 2 ^ 32

abbrev pub FitsSigned : ℤ → Type 0
FitsSigned z = IsInSize 32 z

abbrev pub FitsLocation : Loc → Type 0
FitsLocation loc = FitsNumber loc.func × FitsSigned loc.instr

abbrev pub FitsValue : Value → Type 0
FitsValue (I32 n) = n < 2 ^ 32
FitsValue (I64 n) = n < 2 ^ 64

abbrev pub FitsCallee : Option ℕ → Type 0
FitsCallee None = Unit {0}
FitsCallee (Some n) = FitsNumber n

abbrev pub FitValues : List Value → Type 0
FitValues vs = FitsNumber (length vs) × AllByRecursion FitsValue vs

abbrev pub FitsField : (t : FieldType) → FieldOf t → Type 0
FitsField place loc = FitsLocation loc
FitsField number n = FitsNumber n
FitsField signed z = FitsSigned z
FitsField value v = FitsValue v
FitsField callee c = FitsCallee c
FitsField values vs = FitValues vs
FitsField _ x = Unit {0}

abbrev pub FitFields : (ts : List FieldType) → Fields ts → Type 0
FitFields [] fields = Unit {0}
FitFields (t ∷ ts) fields = FitsField t fields.0 × FitFields ts fields.1
