use Rattle.std.proofs.Common.{rules}
use Rattle.static_info.proofs.owner.Following.follows.Goals as goal

pub returns-then-self-gt0 : goal.returns-then-self-gt0
returns-then-self-gt0 c = search rules
