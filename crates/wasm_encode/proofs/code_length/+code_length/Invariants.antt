use Rattle.std.proofs.Common.{◌≡◌, ◌+◌, ◌-◌, ◌*◌, ◌≤◌, ◌^◌, length, min, drop}
use Rattle.module_ast.specs.Structure.{weight, done, before, code_of}
use Rattle.module_ast.specs.Binary.{FitsCode, code_bytes}
use Rattle.wasm_encode.proofs.code_length.+code_length.Given as goal

abbrev pub decreases-instrs_length : goal.decreases-instrs_length
decreases-instrs_length l = 2 * weight (code_of l.instrs.now) + 1

abbrev pub decreases-instr_length : goal.decreases-instr_length
decreases-instr_length l = 2 * weight (before l.instr.now done)

abbrev pub invariant-instrs_length-loop-instr : goal.invariant-instrs_length-loop-instr
invariant-instrs_length-loop-instr l = record {
  within : l.total ≤ 2 ^ 64 - 1;
  whole : min (l.total + length (code_bytes (code_of (drop l.instr-index l.instrs)))) (2 ^ 64 - 1) ≡ min (length (code_bytes (code_of l.instrs))) (2 ^ 64 - 1);
  rest : weight (code_of (drop l.instr-index l.instrs)) ≤ weight (code_of l.instrs);
  fit : FitsCode (code_of (drop l.instr-index l.instrs)) → FitsCode (code_of l.instrs);
}
