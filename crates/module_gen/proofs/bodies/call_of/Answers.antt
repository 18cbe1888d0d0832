use Rattle.std.proofs.Common.{rules}
use Rattle.module_gen.proofs.bodies.call_of.Goals as goal

pub returns-then-choice-eq0 : goal.returns-then-choice-eq0
returns-then-choice-eq0 c = search rules
