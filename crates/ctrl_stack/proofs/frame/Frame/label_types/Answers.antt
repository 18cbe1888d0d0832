use Rattle.std.proofs.Common.{rules}
use Rattle.ctrl_stack.proofs.frame.Frame.label_types.Goals as goal

pub returns-in-Loop : goal.returns-in-Loop
returns-in-Loop c = search rules
