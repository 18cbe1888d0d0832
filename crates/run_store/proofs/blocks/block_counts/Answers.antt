use Rattle.std.proofs.Common.{rules}
use Rattle.run_store.proofs.blocks.block_counts.Goals as goal

pub returns-in-Value : goal.returns-in-Value
returns-in-Value c = search rules
