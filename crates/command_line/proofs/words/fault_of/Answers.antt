use Rattle.std.proofs.Common.{rules}
use Rattle.command_line.proofs.words.fault_of.Goals as goal

pub returns-else-eq : goal.returns-else-eq
returns-else-eq c = search rules
