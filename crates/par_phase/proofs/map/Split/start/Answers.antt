use Rattle.std.proofs.Common.{rules}
use Rattle.par_phase.proofs.map.Split.start.Goals as goal

pub returns-clause-at : goal.returns-clause-at
returns-clause-at c = search rules
