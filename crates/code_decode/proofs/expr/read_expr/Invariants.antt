use Rattle.std.proofs.Common.{length}
use Rattle.code_decode.proofs.State.{IsScan}
use Rattle.code_decode.proofs.expr.read_expr.Given as goal

abbrev pub invariant-loop-scan : goal.invariant-loop-scan
invariant-loop-scan l = IsScan l.fn.bound l.initial.cursor.left l.scan.stack.items l.scan.items.items l.scan.floats l.scan.nesting l.cursor.left

abbrev pub decreases-loop-scan : goal.decreases-loop-scan
decreases-loop-scan l = length l.cursor.left
