use Rattle.std.proofs.Common.{rules}
use Rattle.module_ast.proofs.spaces.Counts.of_kind.Goals as goal

pub returns-in-Memory : goal.returns-in-Memory
returns-in-Memory c = search rules
