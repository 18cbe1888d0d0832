use Rattle.std.proofs.Common.{ℕ, List, ap}
use Rattle.module_ast.specs.declared.module.Element.{Element}
use Rattle.module_ast.specs.Structure.{Tree}
use Rattle.wasm_decode.specs.Makes.{element_by}
use Rattle.wasm_decode.proofs.codes.element.Goals as goal

abbrev element_of : ℕ → Tree → List ℕ → Element
element_of n c xs = record { table = n; offset = c; funcs = xs }

pub returns-in_ok-offset-in-Deep : goal.returns-in_ok-offset-in-Deep
returns-in_ok-offset-in-Deep c = λ bound t q.
    let r = rw c.in-Deep.is at q in
    (element_of c.args.table r.0 c.args.funcs, ap (λ u. element_by c.args.table u c.args.funcs) r.1, ap (λ u. element_of c.args.table u c.args.funcs) c.in_ok-offset-in-Deep.ensures, r.2, r.3)
