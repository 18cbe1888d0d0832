-- The input of a key.
use Rattle.std.proofs.Common.{arith}
use Rattle.std.proofs.lemmas.Grind.{common_steps}
use Rattle.hook_mono.proofs.compare.HookKeyHash.hash.Goals as goal

pub returns : goal.returns
returns g c = grind (arith, common_steps)
