use Rattle.std.proofs.Common.{arith, rules}
use Rattle.module_ast.specs.Binary.{GlobalNode, GlobalTypeNode, CodeNode, IsGlobalType, IsExpr}
use Rattle.module_ast.proofs.Compose.{both_none_first, both_none_second, both_some}
use Rattle.code_decode.proofs.Items.{one_global_type}
use Rattle.wasm_decode.specs.Makes.{global_by}
use Rattle.wasm_decode.proofs.Fronts.{expr_front, front_shorter}
use Rattle.wasm_decode.proofs.codes.GlobalsEntry.read.Goals as goal

abbrev type_of : GlobalNode → GlobalTypeNode
type_of g = g.ty

abbrev init_of : GlobalNode → CodeNode
init_of g = g.init

pub returns-in_err-ty-clause-malformed : goal.returns-in_err-ty-clause-malformed
returns-in_err-ty-clause-malformed c = λ e. both_none_first IsGlobalType IsExpr type_of init_of _ c.in_err-ty.ensures.bad

pub returns-in_err-init-clause-malformed : goal.returns-in_err-init-clause-malformed
returns-in_err-init-clause-malformed c = λ e.
    both_none_second IsGlobalType IsExpr type_of init_of _ _ _ one_global_type c.in_ok-ty.ensures.ok.1 (c.in_err-init.ensures.malformed (search rules))

pub returns-clause-ok : goal.returns-clause-ok
returns-clause-ok c =
    let t = c.in_ok-ty.ensures.ok in
    let i = expr_front c.args.nesting _ _ _ c.in_ok-init.ensures.ok in
    (global_by t.0 i.0, both_some IsGlobalType IsExpr _ _ _ t.0 i.0 t.1 i.1, c.in_ok-global.ensures c.args.nesting t.0 i.0 t.2 i.2)

pub read_expr-requires-clause-bytes : goal.read_expr-requires-clause-bytes
read_expr-requires-clause-bytes c = omega (arith, front_shorter IsGlobalType _ _ _ c.in_ok-ty.ensures.ok.1)
