use Rattle.module_ast.proofs.Opcodes.{store_found, store_exact}
use Rattle.module_ast.proofs.laws.stores_have_their_opcodes.Goals as goal

pub returns-clause-found : goal.returns-clause-found
returns-clause-found c = store_found

pub returns-clause-exact : goal.returns-clause-exact
returns-clause-exact c = store_exact
