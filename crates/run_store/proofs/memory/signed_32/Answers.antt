use Rattle.std.proofs.Common.{rules}
use Rattle.run_store.proofs.memory.signed_32.Goals as goal

pub returns : goal.returns
returns c = search rules
