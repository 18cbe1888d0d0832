use Rattle.std.proofs.Common.{length}
use Rattle.wasm_run.proofs.Named.{IsNamedBehind}
use Rattle.wasm_run.proofs.exports.exported_functions.Given as goal

abbrev pub invariant-loop-export : goal.invariant-loop-export
invariant-loop-export l = IsNamedBehind l.named l.left l.exports

abbrev pub decreases-loop-export : goal.decreases-loop-export
decreases-loop-export l = length l.left
