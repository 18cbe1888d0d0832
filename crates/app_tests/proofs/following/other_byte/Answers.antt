-- The second file is the other module.
use Rattle.std.proofs.Common.{refl}
use Rattle.app_tests.proofs.Stored.{read_two}
use Rattle.app_tests.proofs.following.other_byte.Goals as goal

pub output_byte-requires-clause-other : goal.output_byte-requires-clause-other
output_byte-requires-clause-other g c = λ _ _. read_two _ c.in_ok-other.other refl c.in_ok-other.ensures.fit
