use Rattle.instrument.proofs.FrameOperands.{few_operands}
use Rattle.instrument.proofs.laws.outputs_have_few_operands.Goals as goal

pub returns : goal.returns
returns c = few_operands
