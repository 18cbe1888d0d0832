use Rattle.std.proofs.Common.{◌≡◌, refl, ap, ◌∙◌, arith, w32, w64, to_z, of_z}
use Rattle.std.proofs.lemmas.Int.{ints}
use Rattle.leb_binary.proofs.Numbers.{within_signed}
use Rattle.module_ast.specs.declared.code.Instr.TheVariants.{BrTable}
use Rattle.code_decode.specs.Classes.{plain_shape}
use Rattle.code_decode.proofs.Faults.{passed_on}
use Rattle.code_decode.proofs.Operands.{bare_ok, index_ok, index_bad, arg_ok, arg_bad, small_ok, small_bad, wide_ok, wide_bad, zerobyte_ok, zerobyte_bad, table_ok, table_bad, indirect_ok, indirect_bad, indirect_no_zero}
use Rattle.code_decode.proofs.token.plain.Goals as goal

pub returns-in_err-index-in-Index-clause-malformed : goal.returns-in_err-index-in-Index-clause-malformed
returns-in_err-index-in-Index-clause-malformed c = λ e. index_bad _ _ (ap plain_shape c.in-Index.is) _ c.in_err-index-in-Index.ensures.bad.1

pub returns-in_err-labels-in-Table-clause-malformed : goal.returns-in_err-labels-in-Table-clause-malformed
returns-in_err-labels-in-Table-clause-malformed c = λ e. table_bad _ (ap plain_shape c.in-Table.is) _ (c.in_err-labels-in-Table.ensures.malformed (passed_on _ _ _ c.from_residual-in_err-labels-in-Table.ensures.1 e))

pub returns-in_err-ty-in-Indirect-clause-malformed : goal.returns-in_err-ty-in-Indirect-clause-malformed
returns-in_err-ty-in-Indirect-clause-malformed c = λ e. indirect_bad _ (ap plain_shape c.in-Indirect.is) _ c.in_err-ty-in-Indirect.ensures.bad.1

pub returns-in_err-zero-in-Indirect-clause-malformed : goal.returns-in_err-zero-in-Indirect-clause-malformed
returns-in_err-zero-in-Indirect-clause-malformed c = λ e. indirect_no_zero _ (ap plain_shape c.in-Indirect.is) _ _ _ c.in_ok-ty-in-Indirect.ensures.ok.1 c.in_err-zero-in-Indirect.ensures.bad

pub returns-in_err-zero-in-ZeroByte-clause-malformed : goal.returns-in_err-zero-in-ZeroByte-clause-malformed
returns-in_err-zero-in-ZeroByte-clause-malformed c = λ e. zerobyte_bad _ _ (ap plain_shape c.in-ZeroByte.is) _ c.in_err-zero-in-ZeroByte.ensures.bad

pub returns-in_err-arg-in-Arg-clause-malformed : goal.returns-in_err-arg-in-Arg-clause-malformed
returns-in_err-arg-in-Arg-clause-malformed c = λ e. arg_bad _ _ (ap plain_shape c.in-Arg.is) _ c.in_err-arg-in-Arg.ensures.bad

pub returns-in_err-read_s32-in-Small-clause-malformed : goal.returns-in_err-read_s32-in-Small-clause-malformed
returns-in_err-read_s32-in-Small-clause-malformed c = λ e. small_bad _ (ap plain_shape c.in-Small.is) _ c.in_err-read_s32-in-Small.ensures.bad.1

pub returns-in_err-read_s64-in-Wide-clause-malformed : goal.returns-in_err-read_s64-in-Wide-clause-malformed
returns-in_err-read_s64-in-Wide-clause-malformed c = λ e. wide_bad _ (ap plain_shape c.in-Wide.is) _ c.in_err-read_s64-in-Wide.ensures.bad.1

pub returns-in-Bare-clause-ok : goal.returns-in-Bare-clause-ok
returns-in-Bare-clause-ok c = bare_ok _ _ (ap plain_shape c.in-Bare.is) _ _ c.instr.ensures

pub returns-in_ok-index-in-Index-clause-ok : goal.returns-in_ok-index-in-Index-clause-ok
returns-in_ok-index-in-Index-clause-ok c = index_ok _ _ (ap plain_shape c.in-Index.is) _ _ _ c.in_ok-index-in-Index.ensures.ok.1 _ c.instr-in-Index.ensures

pub returns-in_ok-from_vec-in-Table-clause-ok : goal.returns-in_ok-from_vec-in-Table-clause-ok
returns-in_ok-from_vec-in-Table-clause-ok c = table_ok _ (ap plain_shape c.in-Table.is) _ _ _ c.in_ok-labels-in-Table.ensures.ok _ (ap (λ l. BrTable l c.in_ok-labels-in-Table.last) (c.in_ok-from_vec-in-Table.ensures ∙ c.shrink_to_fit.ensures.items))

pub returns-in_ok-zero-in-Indirect-clause-ok : goal.returns-in_ok-zero-in-Indirect-clause-ok
returns-in_ok-zero-in-Indirect-clause-ok c = indirect_ok _ (ap plain_shape c.in-Indirect.is) _ _ _ _ 0 c.in_ok-ty-in-Indirect.ensures.ok.1 c.in_ok-zero-in-Indirect.ensures.ok

pub returns-in_ok-zero-in-ZeroByte-clause-ok : goal.returns-in_ok-zero-in-ZeroByte-clause-ok
returns-in_ok-zero-in-ZeroByte-clause-ok c = zerobyte_ok _ _ (ap plain_shape c.in-ZeroByte.is) _ _ 0 c.in_ok-zero-in-ZeroByte.ensures.ok _ c.instr-in-ZeroByte.ensures

pub returns-in_ok-arg-in-Arg-clause-ok : goal.returns-in_ok-arg-in-Arg-clause-ok
returns-in_ok-arg-in-Arg-clause-ok c = arg_ok _ _ (ap plain_shape c.in-Arg.is) _ _ _ c.in_ok-arg-in-Arg.ensures.ok _ c.instr-in-Arg.ensures

pub returns-in_ok-read_s32-in-Small-clause-ok : goal.returns-in_ok-read_s32-in-Small-clause-ok
returns-in_ok-read_s32-in-Small-clause-ok c =
    let o = c.in_ok-read_s32-in-Small.ensures.ok.1 in
    let x = c.in_ok-read_s32-in-Small.field-0 in
    let w = within_signed 32 _ _ (omega arith) o.2 in
    let e : to_z w32 (of_z w32 x) ≡ x = omega (arith, ints, w.least, w.most) in
    rw e (small_ok _ (ap plain_shape c.in-Small.is) _ _ _ o _ refl)

pub returns-in_ok-read_s64-in-Wide-clause-ok : goal.returns-in_ok-read_s64-in-Wide-clause-ok
returns-in_ok-read_s64-in-Wide-clause-ok c =
    let o = c.in_ok-read_s64-in-Wide.ensures.ok.1 in
    let x = c.in_ok-read_s64-in-Wide.field-0 in
    let w = within_signed 64 _ _ (omega arith) o.2 in
    let e : to_z w64 (of_z w64 x) ≡ x = omega (arith, ints, w.least, w.most) in
    rw e (wide_ok _ (ap plain_shape c.in-Wide.is) _ _ _ o _ refl)
