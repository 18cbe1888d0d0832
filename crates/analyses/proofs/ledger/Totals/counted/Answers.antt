use Rattle.std.proofs.Common.{rules}
use Rattle.analyses.proofs.ledger.Totals.counted.Goals as goal

pub returns-in-Memory : goal.returns-in-Memory
returns-in-Memory c = search rules
