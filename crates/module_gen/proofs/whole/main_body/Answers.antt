use Rattle.std.proofs.Common.{rules}
use Rattle.module_gen.proofs.whole.main_body.Goals as goal

pub returns : goal.returns
returns c = search rules
