use Rattle.wasm_num.proofs.Opcodes.{num_found, num_exact}
use Rattle.wasm_num.proofs.laws.nums_have_their_opcodes.Goals as goal

pub returns-clause-found : goal.returns-clause-found
returns-clause-found c = num_found

pub returns-clause-exact : goal.returns-clause-exact
returns-clause-exact c = num_exact
