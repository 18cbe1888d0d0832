use Rattle.std.proofs.Common.{rules}
use Rattle.report.proofs.write.put_line.Goals as goal

pub returns-clause-printed : goal.returns-clause-printed
returns-clause-printed c = search rules
