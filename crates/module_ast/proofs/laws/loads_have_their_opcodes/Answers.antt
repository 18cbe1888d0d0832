use Rattle.module_ast.proofs.Opcodes.{load_found, load_exact}
use Rattle.module_ast.proofs.laws.loads_have_their_opcodes.Goals as goal

pub returns-clause-found : goal.returns-clause-found
returns-clause-found c = load_found

pub returns-clause-exact : goal.returns-clause-exact
returns-clause-exact c = load_exact
