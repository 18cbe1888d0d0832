use Rattle.std.proofs.Common.{◌≡◌, ◌++◌, ◌+◌, length, drop}
use Rattle.module_ast.specs.Binary.{locals_of}
use Rattle.module_ast.specs.Validation.{declared_locals}
use Rattle.code_valid.proofs.Runs.{Kept}
use Rattle.code_valid.proofs.locals.Locals.new.Given as goal

abbrev pub invariant-loop-ty : goal.invariant-loop-ty
invariant-loop-ty l =
    Kept l.runs.items l.end (drop l.ty-index l.params ++ declared_locals l.groups) (l.params ++ declared_locals l.groups)
    × (l.end ≡ l.ty-index)

abbrev pub invariant-loop-group : goal.invariant-loop-group
invariant-loop-group l =
    Kept l.runs.items l.end (declared_locals (drop l.group-index l.groups)) (l.params ++ declared_locals l.groups)
    × (l.end + locals_of (drop l.group-index l.groups) ≡ length l.params + locals_of l.groups)
