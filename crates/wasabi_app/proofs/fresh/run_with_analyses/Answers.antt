use Rattle.std.proofs.Common.{rules}
use Rattle.wasabi_app.proofs.fresh.run_with_analyses.Goals as goal

pub returns-clause-ended : goal.returns-clause-ended
returns-clause-ended g c = search rules
