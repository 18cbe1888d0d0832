use Rattle.std.proofs.Common.{rules}
use Rattle.run_store.proofs.memory.Memory.grow.Goals as goal

pub returns-then-by-self-clause-ok : goal.returns-then-by-self-clause-ok
returns-then-by-self-clause-ok c = search rules
