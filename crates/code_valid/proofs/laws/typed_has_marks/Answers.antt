use Rattle.code_valid.proofs.Live.{typed_marks}
use Rattle.code_valid.proofs.laws.typed_has_marks.Goals as goal

pub returns : goal.returns
returns c = λ d below p k s u t. typed_marks d below p k s u t
