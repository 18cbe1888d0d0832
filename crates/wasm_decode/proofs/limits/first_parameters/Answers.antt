use Rattle.std.proofs.Common.{arith}
use Rattle.std.proofs.lemmas.Grind.{common_steps}
use Rattle.wasm_decode.proofs.limits.first_parameters.Goals as goal

pub returns-then-count-bound : goal.returns-then-count-bound
returns-then-count-bound c = grind (arith, common_steps)

pub loop-ty-preserved : goal.loop-ty-preserved
loop-ty-preserved c = grind (arith, common_steps)
