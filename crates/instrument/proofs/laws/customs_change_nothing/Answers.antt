use Rattle.instrument.proofs.Customs.{customs_change_nothing}
use Rattle.instrument.proofs.laws.customs_change_nothing.Goals as goal

pub returns : goal.returns
returns c = customs_change_nothing
