use Rattle.code_valid.proofs.Surveyed.{surveyed}
use Rattle.code_valid.proofs.laws.survey_notes.Goals as goal

pub returns : goal.returns
returns c = λ d below k a w. surveyed d below k a w
