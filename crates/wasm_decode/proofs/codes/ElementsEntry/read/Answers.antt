use Rattle.std.proofs.Common.{arith, ℕ, List, subst, rules}
use Rattle.leb_binary.proofs.Fronts.{one_unsigned}
use Rattle.module_ast.specs.Binary.{Both, ElementNode, CodeNode, IsU32, IsVec, IsExpr}
use Rattle.module_ast.proofs.Compose.{both_none_first, both_none_second, both_some}
use Rattle.code_decode.proofs.Unique.{one_expr}
use Rattle.wasm_decode.specs.Makes.{element_by}
use Rattle.wasm_decode.specs.Kinds.{element_form}
use Rattle.wasm_decode.specs.Parts.{IsPiece}
use Rattle.wasm_decode.proofs.Fronts.{expr_front, front_shorter}
use Rattle.wasm_decode.proofs.codes.ElementsEntry.read.Goals as goal

-- the offset and the functions
abbrev Behind : List ℕ → CodeNode × List ℕ → Type 0
Behind rest p = Both IsExpr (IsVec IsU32) rest p.0 p.1

abbrev table_of : ElementNode → ℕ
table_of e = e.table

abbrev behind_of : ElementNode → CodeNode × List ℕ
behind_of e = (e.offset, e.funcs)

abbrev offset_of : CodeNode × List ℕ → CodeNode
offset_of p = p.0

abbrev funcs_of : CodeNode × List ℕ → List ℕ
funcs_of p = p.1

pub returns-in_err-table-clause-malformed : goal.returns-in_err-table-clause-malformed
returns-in_err-table-clause-malformed c = λ e. both_none_first IsU32 Behind table_of behind_of _ c.in_err-table.ensures.bad.1

pub returns-in_err-offset-clause-malformed : goal.returns-in_err-offset-clause-malformed
returns-in_err-offset-clause-malformed c = λ e.
    both_none_second IsU32 Behind table_of behind_of _ _ _ (one_unsigned 32) c.in_ok-table.ensures.ok.1 (both_none_first IsExpr (IsVec IsU32) offset_of funcs_of _ (c.in_err-offset.ensures.malformed (search rules)))

pub returns-in_err-funcs-clause-malformed : goal.returns-in_err-funcs-clause-malformed
returns-in_err-funcs-clause-malformed c = λ e.
    both_none_second IsU32 Behind table_of behind_of _ _ _ (one_unsigned 32) c.in_ok-table.ensures.ok.1 (both_none_second IsExpr (IsVec IsU32) offset_of funcs_of _ _ _ one_expr (expr_front c.args.nesting _ _ _ c.in_ok-offset.ensures.ok).1 (c.in_err-funcs.ensures.malformed (search rules)))

pub returns-clause-ok : goal.returns-clause-ok
returns-clause-ok c =
    let n = c.in_ok-table.table in
    let t = expr_front c.args.nesting _ _ _ c.in_ok-offset.ensures.ok in
    let fs = c.in_ok-funcs.funcs.items in
    (element_by n t.0 fs, both_some IsU32 Behind _ _ _ n (t.0, fs) c.in_ok-table.ensures.ok.1 (both_some IsExpr (IsVec IsU32) _ _ _ t.0 fs t.1 c.in_ok-funcs.ensures.ok), subst (λ l. IsPiece element_form c.args.nesting c.in_ok-element.element (element_by n t.0 l)) c.from_vec-funcs.ensures (c.in_ok-element.ensures c.args.nesting t.0 t.2))

pub read_expr-requires-clause-bytes : goal.read_expr-requires-clause-bytes
read_expr-requires-clause-bytes c = omega (arith, front_shorter IsU32 _ _ _ c.in_ok-table.ensures.ok.1)
