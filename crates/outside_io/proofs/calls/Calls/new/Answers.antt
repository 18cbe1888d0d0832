use Rattle.outside_io.proofs.Counting.{listed_below-zero}
use Rattle.outside_io.proofs.calls.Calls.new.Goals as goal

-- no call was made yet
pub returns-clause-made : goal.returns-clause-made
returns-clause-made c = listed_below-zero _
