use Rattle.std.proofs.Common.{rules}
use Rattle.run_store.proofs.memory.effective_address.Goals as goal

pub returns : goal.returns
returns c = search rules
