use Rattle.std.proofs.Common.{◌<◌, All, take}
use Rattle.module_ast.specs.declared.module.Segment.{Segment}
use Rattle.wasm_valid.proofs.data.have_bytes.Given as goal

abbrev pub invariant-loop-segment : goal.invariant-loop-segment
invariant-loop-segment l = All (λ (d : Segment). All (λ b. b < 256) d.bytes) (take l.segment-index l.segments)
