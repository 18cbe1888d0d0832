use Rattle.code_decode.proofs.Faults.{on_err}
use Rattle.wasm_decode.proofs.TypeFronts.{limits_end, limits_no_min, limits_no_max, limits_without, limits_with}
use Rattle.wasm_decode.proofs.types.limits.Goals as goal

pub returns-in_err-byte-clause-bad : goal.returns-in_err-byte-clause-bad
returns-in_err-byte-clause-bad c = on_err c.from_residual.result (limits_end _ c.in_err-byte.ensures.bad.1)

pub returns-in_err-min-in-0-clause-bad : goal.returns-in_err-min-in-0-clause-bad
returns-in_err-min-in-0-clause-bad c =
    on_err c.from_residual-in_err-min-in-0.result (limits_no_min _ _ _ c.in_ok-byte.ensures.ok.1 c.in_err-min-in-0.ensures.bad.1)

pub returns-in_err-min-in-1-clause-bad : goal.returns-in_err-min-in-1-clause-bad
returns-in_err-min-in-1-clause-bad c =
    on_err c.from_residual-in_err-min-in-1.result (limits_no_min _ _ _ c.in_ok-byte.ensures.ok.1 c.in_err-min-in-1.ensures.bad.1)

pub returns-in_err-max-in-1-clause-bad : goal.returns-in_err-max-in-1-clause-bad
returns-in_err-max-in-1-clause-bad c =
    on_err c.from_residual-in_err-max-in-1.result (limits_no_max _ _ _ _ _ c.in_ok-byte.ensures.ok.1 c.in-1.is c.in_ok-min-in-1.ensures.ok.1 c.in_err-max-in-1.ensures.bad.1)

pub returns-in_ok-min-in-0-clause-ok : goal.returns-in_ok-min-in-0-clause-ok
returns-in_ok-min-in-0-clause-ok c = limits_without _ _ _ _ _ c.in_ok-byte.ensures.ok.1 c.in-0.is c.in_ok-min-in-0.ensures.ok.1

pub returns-in_ok-max-in-1-clause-ok : goal.returns-in_ok-max-in-1-clause-ok
returns-in_ok-max-in-1-clause-ok c =
    limits_with _ _ _ _ _ _ _ c.in_ok-byte.ensures.ok.1 c.in-1.is c.in_ok-min-in-1.ensures.ok.1 c.in_ok-max-in-1.ensures.ok.1
