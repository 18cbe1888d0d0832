use Rattle.std.proofs.Common.{rules}
use Rattle.index_remap.proofs.Remap.map.Goals as goal

pub returns-then-f-self : goal.returns-then-f-self
returns-then-f-self c = search rules
