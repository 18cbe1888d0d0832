use Rattle.std.proofs.Common.{rules}
use Rattle.rewrite.proofs.setting.Setting.push_call.Goals as goal

pub returns : goal.returns
returns c = search rules
