use Rattle.std.proofs.Common.{rules}
use Rattle.module_ast.proofs.ops.StoreOp.width.Goals as goal

pub returns-in-I64Store-clause-is : goal.returns-in-I64Store-clause-is
returns-in-I64Store-clause-is c = search rules
