use Rattle.std.proofs.Common.{◌≡◌, ◌+◌, drop}
use Rattle.module_ast.specs.Binary.{locals_of}
use Rattle.run_store.proofs.functions.count_locals.Given as goal

abbrev pub invariant-loop-group : goal.invariant-loop-group
invariant-loop-group l = l.count + locals_of (drop l.group-index l.groups) ≡ locals_of l.groups
