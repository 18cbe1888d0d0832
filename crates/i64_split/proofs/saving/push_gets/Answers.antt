use Rattle.std.proofs.Common.{arith}
use Rattle.std.proofs.lemmas.Grind.{common_steps}
use Rattle.i64_split.proofs.saving.push_gets.Goals as goal

pub loop-temp-preserved : goal.loop-temp-preserved
loop-temp-preserved c = grind (arith, common_steps)

pub returns-clause-added : goal.returns-clause-added
returns-clause-added c = grind (arith, common_steps)
