use Rattle.static_info.proofs.Held.{info_held}
use Rattle.static_info.proofs.laws.texts_hold_infos.Goals as goal

pub returns : goal.returns
returns c = info_held
