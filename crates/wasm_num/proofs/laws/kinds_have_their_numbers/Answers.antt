use Rattle.wasm_num.proofs.Opcodes.{kind_found, kind_exact}
use Rattle.wasm_num.proofs.laws.kinds_have_their_numbers.Goals as goal

pub returns-clause-found : goal.returns-clause-found
returns-clause-found c = kind_found

pub returns-clause-exact : goal.returns-clause-exact
returns-clause-exact c = kind_exact
