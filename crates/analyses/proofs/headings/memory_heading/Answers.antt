use Rattle.std.proofs.Common.{rules}
use Rattle.analyses.proofs.headings.memory_heading.Goals as goal

pub returns-in-Store : goal.returns-in-Store
returns-in-Store c = search rules
