use Rattle.module_ast.proofs.WrittenModules.{module_spelled}
use Rattle.module_ast.proofs.laws.canonical_bytes_are_spelled.Goals as goal

pub returns : goal.returns
returns c = module_spelled
