use Rattle.code_valid.proofs.Live.{marks_unique}
use Rattle.code_valid.proofs.laws.marks_are_unique.Goals as goal

pub returns : goal.returns
returns c = λ d below p k s m h t. marks_unique d below p k s m h t
