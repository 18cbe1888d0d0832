use Rattle.std.proofs.Common.{arith}
use Rattle.module_ast.specs.Structure.{done, call}
use Rattle.rewrite.proofs.CodeBytes.{plain_before}
use Rattle.rewrite.proofs.around.call_length.Goals as goal

pub returns-clause-length : goal.returns-clause-length
returns-clause-length c = omega (arith, c.plain_length.ensures.length done, plain_before (call c.args.func) done)
