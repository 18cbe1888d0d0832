use Rattle.std.proofs.Common.{◌≡◌, ◌+◌, ◌*◌, ◌≤◌, drop}
use Rattle.module_ast.specs.Structure.{before, code_of, done, weight}
use Rattle.rewrite_needs.specs.Room.{behind_code}
use Rattle.rewrite_needs.proofs.pool.Measured.+measured.Given as goal

abbrev pub decreases-behind_part : goal.decreases-behind_part
decreases-behind_part l = 3 * weight l.code.now + 2

abbrev pub decreases-behind_code : goal.decreases-behind_code
decreases-behind_code l = 3 * weight l.code.now + 1

abbrev pub decreases-behind_instr : goal.decreases-behind_instr
decreases-behind_instr l = 3 * weight (before l.instr.now done)

abbrev pub invariant-behind_code-loop-instr : goal.invariant-behind_code-loop-instr
invariant-behind_code-loop-instr l = record {
  so_far : behind_code l.hooks l.site (code_of (drop l.instr-index l.instr-items)) l.here ≡ behind_code l.hooks l.site l.code l.fn.self;
  lighter : weight (code_of (drop l.instr-index l.instr-items)) ≤ weight l.code;
}
