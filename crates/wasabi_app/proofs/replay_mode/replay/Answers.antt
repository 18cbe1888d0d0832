-- A trace that is not loaded, or what came of it.
use Rattle.std.proofs.lemmas.Result.{err_from_is_err_and}
use Rattle.app_load.specs.Wants.{trace_read}
use Rattle.app_load.proofs.Going.{stopped, went_on}
use Rattle.wasabi_app.specs.Modes.Replay.{replayed_plan}
use Rattle.wasabi_app.proofs.replay_mode.replay.Goals as goal

pub returns-in_err-bytes : goal.returns-in_err-bytes
returns-in_err-bytes g c =
    let p = err_from_is_err_and c.from_residual.result c.from_residual.ensures.1 in
    rw (p.1, p.2)
    (stopped (trace_read c.args.given.now.subject.now) (replayed_plan c.args.given.now.kinds) _ _ _ c.in_err-bytes.field-0.0
    c.in_err-bytes.ensures.refused c.in_err-bytes.ensures.once)

pub replay_trace-requires-clause-short : goal.replay_trace-requires-clause-short
replay_trace-requires-clause-short g c = rw c.as_slice.ensures.value c.in_ok-bytes.ensures.ok.short

pub returns : goal.returns
returns g c =
    let (es, is) = c.in_ok-bytes.ensures.trace in
    went_on (trace_read c.args.given.now.subject.now) (replayed_plan c.args.given.now.kinds) es _ _ _ _ _ c.replay_trace.result
    (record { bytes = c.in_ok-bytes.bytes.items; read_well = c.in_ok-bytes.ensures.ok; spelled = is })
    c.load_trace.ensures.once
    (c.replay_trace.ensures.ended es _ (rw c.as_slice.ensures.value is))
