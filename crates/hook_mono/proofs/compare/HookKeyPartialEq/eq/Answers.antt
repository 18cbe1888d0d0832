use Rattle.std.proofs.Common.{rules}
use Rattle.hook_mono.proofs.compare.HookKeyPartialEq.eq.Goals as goal

pub returns-then-detail : goal.returns-then-detail
returns-then-detail c = search rules
