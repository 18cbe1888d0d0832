use Rattle.std.proofs.Common.{rules}
use Rattle.module_ast.proofs.module.Limits.narrow.Goals as goal

pub returns : goal.returns
returns c = search rules
