use Rattle.std.proofs.Common.{◌≡◌, sym, arith}
use Rattle.wasm_num.specs.declared.NumOp.{NumOp}
use Rattle.wasm_num.specs.declared.NumOp.TheVariants.{I32Eqz}
use Rattle.wasm_num.specs.Opcodes.{num_opcode}
use Rattle.wasm_num.proofs.Opcodes.{num_none}
use Rattle.wasm_num.proofs.NumOp.of_opcode.Goals as goal

pub returns-in_default : goal.returns-in_default
returns-in_default c = sym (num_none c.args.opcode (λ op h. other op h))
  where
    other : (op : NumOp) → num_opcode op ≡ c.args.opcode → ⊥
    other I32Eqz h = omega arith
    other op h = omega arith
