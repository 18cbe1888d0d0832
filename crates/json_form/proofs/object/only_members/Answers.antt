use Rattle.std.proofs.Common.{rules}
use Rattle.json_form.proofs.object.only_members.Goals as goal

pub loop-key-preserved : goal.loop-key-preserved
loop-key-preserved c = search rules
