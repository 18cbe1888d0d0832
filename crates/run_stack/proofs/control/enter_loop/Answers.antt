use Rattle.std.proofs.Common.{rules}
use Rattle.run_stack.proofs.control.enter_loop.Goals as goal

pub returns-clause-opens : goal.returns-clause-opens
returns-clause-opens c = search rules
