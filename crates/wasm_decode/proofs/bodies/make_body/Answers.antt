use Rattle.std.proofs.Common.{List, ap, ◌∙◌}
use Rattle.std.specs.Prelude.{map}
use Rattle.std.proofs.lemmas.Bool.{or_left, or_right}
use Rattle.module_ast.specs.declared.module.Group.{Group}
use Rattle.module_ast.specs.declared.module.Body.{Body}
use Rattle.module_ast.specs.Structure.{Tree}
use Rattle.module_ast.specs.Binary.{group_node}
use Rattle.wasm_decode.specs.Makes.{body_by}
use Rattle.wasm_decode.proofs.bodies.make_body.Goals as goal

abbrev body_of : List Group → Tree → Body
body_of gs c = record { groups = gs; code = c }

pub returns-in_default : goal.returns-in_default
returns-in_default c = λ bound gs t p q. or_left _ _ (rw c.in_default.is at p)

pub returns-in-Built : goal.returns-in-Built
returns-in-Built c = λ bound gs t p q.
    let e = rw c.in-Some.is at p in
    let r = rw c.in-Built.is at q in
    rw c.from_vec-groups.ensures (ap (λ g. body_by g t) e ∙ ap (λ v. body_by (map group_node c.in-Some.groups.items) v) r.0, r.1)

pub returns-in-Floats : goal.returns-in-Floats
returns-in-Floats c = λ bound gs t p q. let r = rw c.in-Floats.is at q in or_right _ _ r

pub returns-in_ok-code-in-Deep : goal.returns-in_ok-code-in-Deep
returns-in_ok-code-in-Deep c = λ bound gs t p q.
    let e = rw c.in-Some.is at p in
    let r = rw c.in-Deep.is at q in
    rw c.from_vec-groups.ensures (body_of c.in-Some.groups.items r.0, ap (λ g. body_by g t) e ∙ ap (λ v. body_by (map group_node c.in-Some.groups.items) v) r.1, ap (λ v. body_of c.in-Some.groups.items v) c.in_ok-code-in-Deep.ensures, r.2, r.3)
