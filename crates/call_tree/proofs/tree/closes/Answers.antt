use Rattle.std.proofs.Common.{rules}
use Rattle.call_tree.proofs.tree.closes.Goals as goal

pub returns-then-eq : goal.returns-then-eq
returns-then-eq c = search rules
