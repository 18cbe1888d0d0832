use Rattle.instrument.proofs.SeenInOrder.{hosts_see_in_order, hosts_can_be_played, hosts_are_played_alike}
use Rattle.instrument.proofs.laws.hosts_can_be_functions.Goals as goal

pub returns : goal.returns
returns c = record { order = hosts_see_in_order; scripts = hosts_can_be_played; unique = hosts_are_played_alike }
