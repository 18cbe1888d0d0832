use Rattle.std.proofs.Common.{rules}
use Rattle.hook_select.proofs.Event.group.Goals as goal

pub returns-in-Stray : goal.returns-in-Stray
returns-in-Stray c = search rules
