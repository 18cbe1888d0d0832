use Rattle.std.proofs.Common.{◌≡◌, List, length}
use Rattle.module_ast.proofs.Compose.{Read}
use Rattle.wasm_decode.specs.Parts.{IsPart}
use Rattle.wasm_decode.proofs.part.read_vec.Given as goal

abbrev pub invariant-loop-i : goal.invariant-loop-i
invariant-loop-i g l =
    let e = g.E.Entry in
    (gs : List e.Shape) × Read e.is l.initial.cursor.left l.cursor.left gs × (length gs ≡ l._i) × IsPart e.form l.nesting l.part gs × (l.part.count ≡ l.count)
