use Rattle.std.proofs.Common.{arith}
use Rattle.std.proofs.lemmas.Grind.{common_steps}
use Rattle.branch_resolve.proofs.steps.Steps.read.Goals as goal

pub end-requires-clause-at : goal.end-requires-clause-at
end-requires-clause-at c = grind (arith, common_steps)
