use Rattle.std.proofs.Common.{rules}
use Rattle.app_load.proofs.kinds.Kinds.has.Goals as goal

pub returns-in-Branches : goal.returns-in-Branches
returns-in-Branches c = search rules
