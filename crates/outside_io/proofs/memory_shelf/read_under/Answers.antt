use Rattle.std.proofs.Common.{rules}
use Rattle.outside_io.proofs.memory_shelf.read_under.Goals as goal

pub returns-then-length-cap : goal.returns-then-length-cap
returns-then-length-cap c = search rules
