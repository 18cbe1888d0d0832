use Rattle.std.proofs.Common.{ap, ◌∙◌}
use Rattle.module_ast.specs.declared.module.GlobalDef.{GlobalDef}
use Rattle.module_ast.specs.declared.module.GlobalType.{GlobalType}
use Rattle.module_ast.specs.Structure.{Tree}
use Rattle.module_ast.specs.Binary.Profile as profile
use Rattle.wasm_decode.specs.Makes.{global_by}
use Rattle.wasm_decode.proofs.codes.global.Goals as goal

abbrev global_of : GlobalType → Tree → GlobalDef
global_of ty c = record { ty = ty; init = c }

pub returns-in_ok-init-in-Deep : goal.returns-in_ok-init-in-Deep
returns-in_ok-init-in-Deep c = λ bound g t p q.
    let r = rw c.in-Deep.is at q in
    let e = rw c.in-Some.is at p in
    (global_of c.in-Some.ty r.0, ap (λ v. global_by v t) e ∙ ap (λ u. global_by (profile.global_type_node c.in-Some.ty) u) r.1, ap (λ u. global_of c.in-Some.ty u) c.in_ok-init-in-Deep.ensures, r.2, r.3)
