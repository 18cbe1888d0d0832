-- The key of a name that stands alone.
use Rattle.std.proofs.Common.{arith}
use Rattle.std.proofs.lemmas.Grind.{common_steps}
use Rattle.hook_mono.proofs.read.fixed_key.Goals as goal

pub returns : goal.returns
returns c = grind (arith, common_steps)
