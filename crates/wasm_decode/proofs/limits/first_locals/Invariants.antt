use Rattle.std.proofs.Common.{◌≤◌, length, drop}
use Rattle.std.specs.Prelude.{map}
use Rattle.module_ast.specs.declared.module.Body.{Body}
use Rattle.module_ast.specs.Binary.{locals_of}
use Rattle.wasm_decode.specs.Counts.{AreFew}
use Rattle.wasm_decode.proofs.Continues.{Continues}
use Rattle.wasm_decode.proofs.limits.first_locals.Given as goal

abbrev pub invariant-loop-body : goal.invariant-loop-body
invariant-loop-body l =
    (l.body-index ≤ length l.bodies) × Continues l.bound (map (λ (b : Body). locals_of b.groups) (drop l.body-index l.bodies)) (map (λ (b : Body). locals_of b.groups) l.bodies) × AreFew (drop l.body-index l.bodies)
