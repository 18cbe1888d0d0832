-- Number instructions and their opcodes, and kinds of block and their numbers, belong together, one to one.
use Rattle.std.specs.Prelude.{◌≡◌, ℕ, Some}
use Rattle.wasm_num.specs.declared.NumOp.{NumOp}
use Rattle.wasm_num.specs.declared.BlockKind.{BlockKind}
use Rattle.wasm_num.specs.Kinds.{kind_number, kind_of_number}
use Rattle.wasm_num.specs.Opcodes.{num_opcode, num_of_opcode}

-- an instruction is found by its opcode
abbrev pub NumsAreFound : Type 0
NumsAreFound = (op : NumOp) → num_of_opcode (num_opcode op) ≡ Some op

-- what is found by an opcode has that opcode
abbrev pub FoundNumsHaveTheOpcode : Type 0
FoundNumsHaveTheOpcode = (opcode : ℕ) (op : NumOp) → num_of_opcode opcode ≡ Some op → num_opcode op ≡ opcode

abbrev pub KindsAreFound : Type 0
KindsAreFound = (kind : BlockKind) → kind_of_number (kind_number kind) ≡ Some kind

abbrev pub FoundKindsHaveTheNumber : Type 0
FoundKindsHaveTheNumber = (number : ℕ) (kind : BlockKind) → kind_of_number number ≡ Some kind → kind_number kind ≡ number
