use Rattle.std.proofs.Common.{rules}
use Rattle.outside_io.proofs.calls.front.Goals as goal

pub returns-then-kept-bytes : goal.returns-then-kept-bytes
returns-then-kept-bytes c = search rules
