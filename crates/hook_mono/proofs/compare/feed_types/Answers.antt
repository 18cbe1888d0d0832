-- One more type is fed.
use Rattle.std.proofs.Common.{arith}
use Rattle.std.proofs.lemmas.Grind.{common_steps}
use Rattle.hook_mono.proofs.compare.feed_types.Goals as goal

pub loop-ty-preserved : goal.loop-ty-preserved
loop-ty-preserved g c = grind (arith, common_steps)
