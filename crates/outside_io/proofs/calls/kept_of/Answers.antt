use Rattle.std.proofs.Common.{arith}
use Rattle.std.proofs.lemmas.Grind.{common_steps}
use Rattle.outside_io.proofs.calls.kept_of.Goals as goal

pub returns-then-fail-number : goal.returns-then-fail-number
returns-then-fail-number c = grind (arith, common_steps)
