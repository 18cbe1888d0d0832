use Rattle.std.proofs.Common.{ℕ, List, arith, ap, ◌∙◌}
use Rattle.module_ast.specs.Binary.{FuncTypeNode, NumberType, IsValType, IsVec, Both, integer, is_floating, some_in}
use Rattle.std.specs.Prelude.{map}
use Rattle.module_ast.proofs.Compose.{both_none_first, both_none_second, both_some, one_vec, op_some, op_none, op_end}
use Rattle.module_ast.proofs.Tokens.{one_val_type}
use Rattle.std.proofs.lemmas.Bool.{or_left, or_right}
use Rattle.code_decode.proofs.Faults.{passed_on}
use Rattle.code_decode.proofs.types.read_func_type.Goals as goal

params : FuncTypeNode → List NumberType
params f = f.params

results : FuncTypeNode → List NumberType
results f = f.results

abbrev type_by : List NumberType → List NumberType → FuncTypeNode
type_by p r = record { params = p; results = r }

abbrev AreBoth : List ℕ → FuncTypeNode → Type 0
AreBoth rest f = Both (IsVec IsValType) (IsVec IsValType) rest f.params f.results

pub returns-in_err-form-clause-malformed : goal.returns-in_err-form-clause-malformed
returns-in_err-form-clause-malformed c = λ e. op_end AreBoth 0x60 _ (omega arith) c.in_err-form.ensures.bad.1

pub returns-in_err-params-clause-malformed : goal.returns-in_err-params-clause-malformed
unfolding params results
returns-in_err-params-clause-malformed c = λ e.
    let f = rw c.if-form-ne96.false at c.in_ok-form.ensures.ok in
    op_none AreBoth 0x60 _ _ f.1 (both_none_first (IsVec IsValType) (IsVec IsValType) params results _ (c.in_err-params.ensures.malformed (passed_on _ _ _ c.from_residual-in_err-params.ensures.1 e)))

pub returns-in_err-results-clause-malformed : goal.returns-in_err-results-clause-malformed
unfolding params results
returns-in_err-results-clause-malformed c = λ e.
    let f = rw c.if-form-ne96.false at c.in_ok-form.ensures.ok in
    let p = c.in_ok-params.ensures.ok in
    op_none AreBoth 0x60 _ _ f.1 (both_none_second (IsVec IsValType) (IsVec IsValType) params results _ _ p.0 (one_vec IsValType one_val_type) p.1 (c.in_err-results.ensures.malformed (passed_on _ _ _ c.from_residual-in_err-results.ensures.1 e)))

pub returns-in_default-clause-ok : goal.returns-in_default-clause-ok
returns-in_default-clause-ok c =
    let f = rw c.if-form-ne96.false at c.in_ok-form.ensures.ok in
    let p = rw c.in_default.is at c.in_ok-params.ensures.ok in
    let r = c.in_ok-results.ensures.ok in
    (type_by p.0 r.0, op_some AreBoth 0x60 _ _ _ (type_by p.0 r.0) f.1 (both_some (IsVec IsValType) (IsVec IsValType) _ _ _ p.0 r.0 p.1 r.1), or_left (some_in is_floating p.0) (some_in is_floating r.0) p.2)

pub returns-in_default-results-clause-ok : goal.returns-in_default-results-clause-ok
returns-in_default-results-clause-ok c =
    let f = rw c.if-form-ne96.false at c.in_ok-form.ensures.ok in
    let p = c.in_ok-params.ensures.ok in
    let r = rw c.in_default-results.is at c.in_ok-results.ensures.ok in
    (type_by p.0 r.0, op_some AreBoth 0x60 _ _ _ (type_by p.0 r.0) f.1 (both_some (IsVec IsValType) (IsVec IsValType) _ _ _ p.0 r.0 p.1 r.1), or_right (some_in is_floating p.0) (some_in is_floating r.0) r.2)

pub returns-clause-ok : goal.returns-clause-ok
returns-clause-ok c =
    let f = rw c.if-form-ne96.false at c.in_ok-form.ensures.ok in
    let p = rw c.in-Some.is at c.in_ok-params.ensures.ok in
    let r = rw c.in-Some-results.is at c.in_ok-results.ensures.ok in
    rw (c.from_vec-params.ensures, c.from_vec-results.ensures)
    (type_by p.0 r.0, op_some AreBoth 0x60 _ _ _ (type_by p.0 r.0) f.1 (both_some (IsVec IsValType) (IsVec IsValType) _ _ _ p.0 r.0 p.1 r.1), ap (λ v. type_by v r.0) p.2 ∙ ap (λ v. type_by (map integer c.in-Some.params.items) v) r.2)
