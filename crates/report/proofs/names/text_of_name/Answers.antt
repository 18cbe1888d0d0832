use Rattle.std.proofs.Common.{rules}
use Rattle.report.proofs.names.text_of_name.Goals as goal

pub returns : goal.returns
returns c = search rules
