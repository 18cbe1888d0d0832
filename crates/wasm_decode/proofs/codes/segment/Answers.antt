use Rattle.std.proofs.Common.{ℕ, List, ap}
use Rattle.module_ast.specs.declared.module.Segment.{Segment}
use Rattle.module_ast.specs.Structure.{Tree}
use Rattle.wasm_decode.specs.Makes.{segment_by}
use Rattle.wasm_decode.proofs.codes.segment.Goals as goal

abbrev segment_of : ℕ → Tree → List ℕ → Segment
segment_of n c xs = record { memory = n; offset = c; bytes = xs }

pub returns-in_ok-offset-in-Deep : goal.returns-in_ok-offset-in-Deep
returns-in_ok-offset-in-Deep c = λ bound t q.
    let r = rw c.in-Deep.is at q in
    (segment_of c.args.memory r.0 c.args.bytes, ap (λ u. segment_by c.args.memory u c.args.bytes) r.1, ap (λ u. segment_of c.args.memory u c.args.bytes) c.in_ok-offset-in-Deep.ensures, r.2, r.3)
