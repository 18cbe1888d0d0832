use Rattle.static_info.proofs.EventsTold.{events_told}
use Rattle.static_info.proofs.laws.events_are_told.Goals as goal

pub returns : goal.returns
returns c = events_told
