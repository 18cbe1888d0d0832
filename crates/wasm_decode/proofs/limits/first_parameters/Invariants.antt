use Rattle.std.proofs.Common.{◌≤◌, length, drop}
use Rattle.std.specs.Prelude.{map}
use Rattle.module_ast.specs.Binary.{most_values}
use Rattle.wasm_decode.proofs.Continues.{Continues}
use Rattle.wasm_decode.proofs.limits.first_parameters.Given as goal

abbrev pub invariant-loop-ty : goal.invariant-loop-ty
invariant-loop-ty l =
    (l.ty-index ≤ length l.types) × Continues l.bound (map most_values (drop l.ty-index l.types)) (map most_values l.types)
