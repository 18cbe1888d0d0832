use Rattle.std.proofs.Common.{◌≡◌, drop}
use Rattle.wasm_sem.specs.Execution.{calls_refusal}
use Rattle.run_session.proofs.link.check_calls.Given as goal

abbrev pub invariant-loop-index : goal.invariant-loop-index
invariant-loop-index l = calls_refusal l.m 0 l.calls ≡ calls_refusal l.m l.index (drop l.index l.calls)
