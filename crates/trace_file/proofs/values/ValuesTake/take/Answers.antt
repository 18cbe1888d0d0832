use Rattle.std.proofs.Common.{◌∙◌, sym, arith}
use Rattle.std.proofs.lemmas.Result.{err_from_is_err_and}
use Rattle.trace_file.specs.Fields.{FitsValue, value_bytes}
use Rattle.trace_file.proofs.Spellings.{apart_value, apart_values}
use Rattle.trace_file.proofs.Apart.{only_one}
use Rattle.trace_file.proofs.Several.{none_counted, some_counted}
use Rattle.trace_file.proofs.values.ValuesTake.take.Goals as goal

pub returns-in_err-value-clause-none : goal.returns-in_err-value-clause-none
returns-in_err-value-clause-none c =
    let p = err_from_is_err_and c.from_residual-in_err-value.result c.from_residual-in_err-value.ensures.1 in
    rw p.1 (λ e. none_counted FitsValue value_bytes apart_value _ _ _ _ _ c.in_ok-count.ensures.taken c.loop.invariant.fit (omega arith) c.loop.invariant.split (c.in_err-value.ensures.none (sym p.2 ∙ e)))

pub returns-clause-only : goal.returns-clause-only
returns-clause-only c =
    only_one apart_values _ _ _ (some_counted FitsValue value_bytes apart_value _ _ _ _ _ c.in_ok-count.ensures.taken c.loop.invariant.fit (omega arith) c.loop.invariant.split)
