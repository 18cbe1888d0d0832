use Rattle.std.proofs.Common.{rules}
use Rattle.module_ast.proofs.spaces.Counts.of_imports.Goals as goal

pub loop-import-init : goal.loop-import-init
loop-import-init c = search rules
