use Rattle.hook_mono.proofs.Tables.{needs_join}
use Rattle.hook_mono.proofs.laws.needs_join.Goals as goal

pub returns : goal.returns
returns c = λ m hooks. needs_join m hooks
