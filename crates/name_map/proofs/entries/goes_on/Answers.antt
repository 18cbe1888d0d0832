use Rattle.std.proofs.Common.{rules}
use Rattle.name_map.proofs.entries.goes_on.Goals as goal

pub returns-then-rises : goal.returns-then-rises
returns-then-rises c = search rules
