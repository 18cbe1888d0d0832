use Rattle.code_valid.proofs.Live.{live_known}
use Rattle.code_valid.proofs.laws.live_types_are_known.Goals as goal

pub returns : goal.returns
returns c = λ d k s u t l. live_known d k s u t l
