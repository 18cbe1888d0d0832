use Rattle.code_valid.proofs.Computed.{has_computed, computed}
use Rattle.code_valid.proofs.laws.marks_are_computed.Goals as goal

pub returns : goal.returns
returns c = record {
  has = λ d below p k s u t. has_computed d below p k s u t;
  only = λ d below p k s u m h t w. computed d below p k s u m h t w;
}
