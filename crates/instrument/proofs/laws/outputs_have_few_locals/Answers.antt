use Rattle.instrument.proofs.Frames.{few_locals}
use Rattle.instrument.proofs.laws.outputs_have_few_locals.Goals as goal

pub returns : goal.returns
returns c = few_locals
