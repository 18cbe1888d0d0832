use Rattle.std.proofs.Common.{◌≡◌, ◌≤◌, drop, max}
use Rattle.module_ast.specs.Structure.{weight, code_of}
use Rattle.module_ast.specs.Places.{code_nesting}
use Rattle.module_ast.proofs.counts.+nesting.Given as goal

abbrev pub decreases-nesting : goal.decreases-nesting
decreases-nesting l = weight l.code.now

abbrev pub invariant-loop-i : goal.invariant-loop-i
invariant-loop-i l =
    (max l.n (code_nesting (code_of (drop l.i-index l.i-items))) ≡ code_nesting l.code) × (weight (code_of (drop l.i-index l.i-items)) ≤ weight l.code)
