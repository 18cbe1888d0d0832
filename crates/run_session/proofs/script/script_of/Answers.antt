-- The parts that are read make the script.
use Rattle.std.proofs.Common.{arith}
use Rattle.std.proofs.lemmas.Grind.{common_steps}
use Rattle.run_session.proofs.script.script_of.Goals as goal

pub returns : goal.returns
returns c = grind (arith, common_steps)
