use Rattle.trace_file.proofs.Whole.{first_fit}
use Rattle.trace_file.proofs.laws.traces_grow.Goals as goal

pub returns : goal.returns
returns c = first_fit
