use Rattle.std.proofs.Common.{rules}
use Rattle.hook_select.proofs.Hooks.has.Goals as goal

pub returns-in-Nop : goal.returns-in-Nop
returns-in-Nop c = search rules
