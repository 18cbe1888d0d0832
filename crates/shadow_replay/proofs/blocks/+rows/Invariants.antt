use Rattle.std.proofs.Common.{◌≡◌, ◌+◌, ◌*◌, ◌≤◌, ◌++◌, drop}
use Rattle.module_ast.specs.Structure.{weight, done, before, code_of}
use Rattle.shadow_replay.specs.BlockRows.{code_row}
use Rattle.shadow_replay.proofs.blocks.+rows.Given as goal

abbrev pub decreases-note_part : goal.decreases-note_part
decreases-note_part l = 4 * weight l.body.now + 2

abbrev pub decreases-note_block : goal.decreases-note_block
decreases-note_block l = 4 * weight l.body.now + 3

abbrev pub decreases-note_instr : goal.decreases-note_instr
decreases-note_instr l = 4 * weight (before l.instr.now done)

abbrev pub decreases-note_code : goal.decreases-note_code
decreases-note_code l = 4 * weight l.code.now + 1

abbrev pub invariant-note_code-loop-instr : goal.invariant-note_code-loop-instr
invariant-note_code-loop-instr l = record {
  whole : l.row.items ++ code_row (code_of (drop l.instr-index l.instr-items)) ≡ l.initial.row.items ++ code_row l.code;
  rest : weight (code_of (drop l.instr-index l.instr-items)) ≤ weight l.code;
}
