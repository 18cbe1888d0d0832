-- 5.4.5 The number instructions by their opcodes.
use Rattle.std.specs.Prelude.{ℕ, ◌==◌, List, [], ◌∷◌, Option, find}
use Rattle.wasm_num.specs.declared.NumOp.{NumOp}
use Rattle.wasm_num.specs.declared.NumOp.TheVariants.{I32Eqz, I32Eq, I32Ne, I32LtS, I32LtU, I32GtS, I32GtU, I32LeS, I32LeU, I32GeS, I32GeU, I64Eqz, I64Eq, I64Ne, I64LtS, I64LtU, I64GtS, I64GtU, I64LeS, I64LeU, I64GeS, I64GeU, I32Clz, I32Ctz, I32Popcnt, I32Add, I32Sub, I32Mul, I32DivS, I32DivU, I32RemS, I32RemU, I32And, I32Or, I32Xor, I32Shl, I32ShrS, I32ShrU, I32Rotl, I32Rotr, I64Clz, I64Ctz, I64Popcnt, I64Add, I64Sub, I64Mul, I64DivS, I64DivU, I64RemS, I64RemU, I64And, I64Or, I64Xor, I64Shl, I64ShrS, I64ShrU, I64Rotl, I64Rotr, I32WrapI64, I64ExtendI32S, I64ExtendI32U, I32Extend8S, I32Extend16S, I64Extend8S, I64Extend16S, I64Extend32S}
use Rattle.wasm_num.specs.Rows.{num_row}

-- each number instruction once, in the order of the opcodes
abbrev pub num_ops : List NumOp
num_ops = I32Eqz ∷ I32Eq ∷ I32Ne ∷ I32LtS ∷ I32LtU ∷ I32GtS ∷ I32GtU ∷ I32LeS ∷ I32LeU ∷ I32GeS ∷ I32GeU ∷ I64Eqz ∷ I64Eq ∷ I64Ne ∷ I64LtS ∷ I64LtU ∷ I64GtS ∷ I64GtU ∷ I64LeS ∷ I64LeU ∷ I64GeS ∷ I64GeU ∷ I32Clz ∷ I32Ctz ∷ I32Popcnt ∷ I32Add ∷ I32Sub ∷ I32Mul ∷ I32DivS ∷ I32DivU ∷ I32RemS ∷ I32RemU ∷ I32And ∷ I32Or ∷ I32Xor ∷ I32Shl ∷ I32ShrS ∷ I32ShrU ∷ I32Rotl ∷ I32Rotr ∷ I64Clz ∷ I64Ctz ∷ I64Popcnt ∷ I64Add ∷ I64Sub ∷ I64Mul ∷ I64DivS ∷ I64DivU ∷ I64RemS ∷ I64RemU ∷ I64And ∷ I64Or ∷ I64Xor ∷ I64Shl ∷ I64ShrS ∷ I64ShrU ∷ I64Rotl ∷ I64Rotr ∷ I32WrapI64 ∷ I64ExtendI32S ∷ I64ExtendI32U ∷ I32Extend8S ∷ I32Extend16S ∷ I64Extend8S ∷ I64Extend16S ∷ I64Extend32S ∷ []

abbrev pub num_opcode : NumOp → ℕ
num_opcode op = (num_row op).opcode

-- the instruction that has this opcode
abbrev pub num_of_opcode : (opcode : ℕ) → Option NumOp
num_of_opcode opcode = find (λ op. num_opcode op == opcode) num_ops
