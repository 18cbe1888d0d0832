-- What was read, or why nothing was.
use Rattle.std.proofs.lemmas.Result.{err_from_is_err_and}
use Rattle.app_load.specs.Wants.{a_trace}
use Rattle.app_load.proofs.Loaded.{refuted_by}
use Rattle.app_load.proofs.loading.load_trace.Goals as goal

pub returns-in_err-bytes-clause-refused : goal.returns-in_err-bytes-clause-refused
returns-in_err-bytes-clause-refused g c =
    let p = err_from_is_err_and c.from_residual.result c.from_residual.ensures.1 in
    rw (p.1, p.2) (c.in_err-bytes.ensures.refused a_trace)

pub returns-in_err-check_trace-clause-refused : goal.returns-in_err-check_trace-clause-refused
returns-in_err-check_trace-clause-refused g c =
    let p = err_from_is_err_and c.from_residual-in_err-check_trace.result c.from_residual-in_err-check_trace.ensures.1 in
    rw (p.1, p.2)
    (refuted_by a_trace _ _ _ _ c.in_ok-bytes.bytes.items _ (c.in_ok-bytes.ensures.ok a_trace)
    (rw c.as_slice.ensures.value at c.in_err-check_trace.ensures.refused))

pub returns-clause-ok : goal.returns-clause-ok
returns-clause-ok g c = c.in_ok-bytes.ensures.ok a_trace

pub returns-clause-trace : goal.returns-clause-trace
returns-clause-trace g c = rw c.as_slice.ensures.value at c.in_ok-check_trace.ensures.ok
