use Rattle.instrument.proofs.CanRewrites.{can_rewrite}
use Rattle.instrument.proofs.laws.bodies_can_be_rewritten.Goals as goal

pub returns : goal.returns
returns c = record { numbers = can_rewrite }
