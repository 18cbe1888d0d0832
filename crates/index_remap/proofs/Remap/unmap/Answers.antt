use Rattle.std.proofs.Common.{rules}
use Rattle.index_remap.proofs.Remap.unmap.Goals as goal

pub returns-then-f-self-2 : goal.returns-then-f-self-2
returns-then-f-self-2 c = search rules
