use Rattle.instrument.proofs.Whole.{same_runs}
use Rattle.instrument.proofs.laws.each_moment_decides.Goals as goal

pub returns : goal.returns
returns c = record { runs = same_runs }
