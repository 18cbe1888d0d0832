use Rattle.std.proofs.Common.{◌≡◌, ◌+◌, length, drop, All}
use Rattle.module_ast.specs.declared.module.Body.{Body}
use Rattle.module_ast.specs.Binary.{FitsCode}
use Rattle.wasm_encode.specs.Outline.{entries_bytes}
use Rattle.wasm_encode.proofs.bodies.entries_length.Given as goal

abbrev pub invariant-loop-body : goal.invariant-loop-body
invariant-loop-body l = record {
  whole :
      l.total + length (entries_bytes (drop l.body-index l.bodies))
      ≡ l.initial.total + length (entries_bytes l.bodies);
  fit : All (λ (b : Body). FitsCode b.code) (drop l.body-index l.bodies) → All (λ (b : Body). FitsCode b.code) l.bodies;
}
