use Rattle.std.proofs.Common.{◌∙◌, List, ◌++◌, ap, ap₂}
use Rattle.module_ast.specs.Structure.{code_of, Tree}
use Rattle.module_ast.specs.declared.module.Body.{Body}
use Rattle.module_ast.specs.declared.module.Group.{Group}
use Rattle.module_gen.specs.Bodies.{front, last_part}
use Rattle.module_gen.specs.Codes.{pieces_code}
use Rattle.module_gen.proofs.bodies.body.Goals as goal

abbrev body_of : List Group → Tree → Body
body_of groups code = record { groups = groups; code = code }

pub returns-clause-body : goal.returns-clause-body
returns-clause-body c =
    let x = c.args.draws.now.state in
    let func = c.args.func in
    let between = c.in_ok-code.ensures.state ∙ ap (λ ty. (front ty x).state) c.param_type.ensures in
    let pieces = c.in_ok-code.ensures.code ∙ ap (λ ty. pieces_code ty (front ty x).made) c.param_type.ensures in
    let last = c.in_ok-last_part.ensures.code ∙ ap (λ y. (last_part func y).made) between in
    ap₂ body_of (c.from_vec.ensures ∙ c.in_ok-locals.ensures)
    (c.in_ok-from_vec.ensures ∙ ap code_of (c.in_ok-append.ensures.items ∙ ap₂ (λ l m. l ++ m) pieces last))

pub returns-clause-state : goal.returns-clause-state
returns-clause-state c =
    let x = c.args.draws.now.state in
    let between = c.in_ok-code.ensures.state ∙ ap (λ ty. (front ty x).state) c.param_type.ensures in
    c.last_part.ensures.state ∙ ap (λ y. (last_part c.args.func y).state) between
