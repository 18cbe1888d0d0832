use Rattle.hook_mono.proofs.TypesTold.{types_told}
use Rattle.hook_mono.proofs.laws.types_are_told.Goals as goal

pub returns : goal.returns
returns c = types_told
