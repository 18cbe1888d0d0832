use Rattle.module_ast.proofs.LeastModules.{module_least}
use Rattle.module_ast.proofs.laws.canonical_bytes_are_shortest.Goals as goal

pub returns : goal.returns
returns c = module_least
