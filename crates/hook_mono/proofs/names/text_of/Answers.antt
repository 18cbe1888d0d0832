use Rattle.std.proofs.Common.{rules}
use Rattle.hook_mono.proofs.names.text_of.Goals as goal

pub returns-in-End : goal.returns-in-End
returns-in-End c = search rules
