use Rattle.std.proofs.Common.{rules}
use Rattle.rewrite.proofs.end_sums.EndSums.all.Goals as goal

pub returns : goal.returns
returns c = search rules
