use Rattle.std.proofs.Common.{◌≡◌, ◌+◌, ◌≤◌, length, drop}
use Rattle.module_ast.specs.Binary.{locals_of}
use Rattle.wasm_decode.proofs.limits.locals.Given as goal

abbrev pub invariant-loop-group : goal.invariant-loop-group
invariant-loop-group l = (l.group-index ≤ length l.groups) × (l.total + locals_of (drop l.group-index l.groups) ≡ locals_of l.groups)
