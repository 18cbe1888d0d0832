use Rattle.std.proofs.Common.{◌≡◌, drop}
use Rattle.wasm_sem.specs.Execution.{fit_segments}
use Rattle.run_session.proofs.link.fit_segments.Given as goal

abbrev pub invariant-loop-segment : goal.invariant-loop-segment
invariant-loop-segment l = fit_segments l.globals l.bytes l.segments ≡ fit_segments l.globals l.bytes (drop l.segment-index l.segments)
