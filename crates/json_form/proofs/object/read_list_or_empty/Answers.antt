use Rattle.std.proofs.Common.{rules}
use Rattle.json_form.proofs.object.read_list_or_empty.Goals as goal

pub returns-in-None : goal.returns-in-None
returns-in-None g c = search rules
