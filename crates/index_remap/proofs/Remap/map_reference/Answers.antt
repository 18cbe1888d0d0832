use Rattle.std.proofs.Common.{rules}
use Rattle.index_remap.proofs.Remap.map_reference.Goals as goal

pub returns-in-Func : goal.returns-in-Func
returns-in-Func c = search rules
