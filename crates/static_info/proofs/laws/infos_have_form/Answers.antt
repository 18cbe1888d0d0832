use Rattle.static_info.proofs.Formed.{infos_have_form}
use Rattle.static_info.proofs.laws.infos_have_form.Goals as goal

pub returns : goal.returns
returns c = infos_have_form
