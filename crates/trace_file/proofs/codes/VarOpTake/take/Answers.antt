use Rattle.std.proofs.Common.{◌∙◌, sym, ap}
use Rattle.std.proofs.lemmas.Result.{err_from_is_err_and}
use Rattle.std.specs.Prelude.{ok_or}
use Rattle.trace_file.specs.Fields.{var_number, var_of_number}
use Rattle.trace_file.specs.declared.field.ReadTraceFault.TheVariants.{NotTrace}
use Rattle.trace_file.proofs.OneByte.{vars, no_byte, byte_told}
use Rattle.trace_file.proofs.codes.VarOpTake.take.Goals as goal

pub returns-in_err-take-clause-none : goal.returns-in_err-take-clause-none
returns-in_err-take-clause-none c =
    let p = err_from_is_err_and c.from_residual.result c.from_residual.ensures.1 in
    rw p.1 (λ e. no_byte var_number var_of_number vars _ (c.in_err-take.ensures.none (sym p.2 ∙ e)))

pub returns-clause-taken : goal.returns-clause-taken
returns-clause-taken c = (byte_told var_number var_of_number vars _ _ _ _ c.in_ok-take.ensures.taken (c.ok_or.ensures.value ∙ ap (λ o. ok_or o NotTrace) c.var_of_number.ensures)).0

pub returns-clause-only : goal.returns-clause-only
returns-clause-only c = (byte_told var_number var_of_number vars _ _ _ _ c.in_ok-take.ensures.taken (c.ok_or.ensures.value ∙ ap (λ o. ok_or o NotTrace) c.var_of_number.ensures)).1

pub returns-clause-none : goal.returns-clause-none
returns-clause-none c = (byte_told var_number var_of_number vars _ _ _ _ c.in_ok-take.ensures.taken (c.ok_or.ensures.value ∙ ap (λ o. ok_or o NotTrace) c.var_of_number.ensures)).2
