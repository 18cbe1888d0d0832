-- One more function is placed.
use Rattle.std.proofs.Common.{arith}
use Rattle.std.proofs.lemmas.Grind.{common_steps}
use Rattle.run_store.proofs.opening.place_functions.Goals as goal

pub loop-func-preserved : goal.loop-func-preserved
loop-func-preserved c = grind (arith, common_steps)

pub returns : goal.returns
returns c = grind (arith, common_steps)
