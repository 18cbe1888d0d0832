use Rattle.std.proofs.Common.{rules}
use Rattle.run_store.proofs.globals.Globals.set.Goals as goal

pub returns : goal.returns
returns c = search rules
