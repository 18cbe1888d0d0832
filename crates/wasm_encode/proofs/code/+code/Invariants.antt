use Rattle.std.proofs.Common.{◌≡◌, ◌+◌, ◌*◌, ◌≤◌, ◌++◌, drop}
use Rattle.module_ast.specs.Structure.{weight, done, before, code_of}
use Rattle.module_ast.specs.Binary.{code_bytes}
use Rattle.wasm_encode.proofs.code.+code.Given as goal

abbrev pub decreases-put_code : goal.decreases-put_code
decreases-put_code l = 3 * weight l.code.now + 1

abbrev pub decreases-put_block : goal.decreases-put_block
decreases-put_block l = 3 * weight l.body.now + 2

abbrev pub decreases-put_if_else : goal.decreases-put_if_else
decreases-put_if_else l = 3 * weight l.body.now + 3 * weight l.other.now + 2

abbrev pub decreases-put_instr : goal.decreases-put_instr
decreases-put_instr l = 3 * weight (before l.instr.now done)

abbrev pub invariant-put_code-loop-instr : goal.invariant-put_code-loop-instr
invariant-put_code-loop-instr l = record {
  whole : l.out.items ++ code_bytes (code_of (drop l.instr-index l.instr-items)) ≡ l.initial.out.items ++ code_bytes l.code;
  rest : weight (code_of (drop l.instr-index l.instr-items)) ≤ weight l.code;
}
