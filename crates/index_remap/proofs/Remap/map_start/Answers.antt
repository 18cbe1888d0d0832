use Rattle.std.proofs.Common.{rules}
use Rattle.index_remap.proofs.Remap.map_start.Goals as goal

pub returns-in-Some : goal.returns-in-Some
returns-in-Some c = search rules
