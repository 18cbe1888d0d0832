use Rattle.std.proofs.Common.{◌≡◌, drop, length, true}
use Rattle.wasm_sem.specs.Execution.{fit_segments, with_segments}
use Rattle.run_store.proofs.opening.write_segments.Given as goal

-- the segments to come fit, and lead to the same bytes as all
abbrev pub invariant-loop-segment : goal.invariant-loop-segment
invariant-loop-segment l = record {
  fits : fit_segments l.globals (length l.memory.bytes) (drop l.segment-index l.segments) ≡ true;
  told : with_segments l.globals (drop l.segment-index l.segments) l.memory.bytes ≡ with_segments l.globals l.segments l.fn.memory.bytes;
  max : l.memory.max ≡ l.fn.memory.max;
}
