use Rattle.std.proofs.Common.{rules}
use Rattle.run_stack.proofs.leaving.above_many.Goals as goal

pub returns : goal.returns
returns c = search rules
