use Rattle.std.proofs.Common.{rules}
use Rattle.module_gen.proofs.draws.Draws.draw.Goals as goal

pub returns-clause-number : goal.returns-clause-number
returns-clause-number c = search rules
