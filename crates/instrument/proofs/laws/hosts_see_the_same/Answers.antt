use Rattle.instrument.proofs.Seen.{hosts_see, hooks_see}
use Rattle.instrument.proofs.laws.hosts_see_the_same.Goals as goal

pub returns : goal.returns
returns c = record { hosts = hosts_see; hooks = hooks_see }
