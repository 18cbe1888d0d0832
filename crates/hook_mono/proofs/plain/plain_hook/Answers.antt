use Rattle.std.proofs.Common.{rules}
use Rattle.hook_mono.proofs.plain.plain_hook.Goals as goal

pub returns-in-BrIf : goal.returns-in-BrIf
returns-in-BrIf c = search rules
