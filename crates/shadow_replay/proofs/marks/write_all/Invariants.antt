use Rattle.std.proofs.Common.{◌≡◌, drop, length, true}
use Rattle.wasm_sem.specs.Execution.{written_memory}
use Rattle.shadow_replay.specs.Shadow.{lie_within}
use Rattle.shadow_replay.specs.Taint.{unmarked_by}
use Rattle.shadow_replay.proofs.marks.write_all.Given as goal

-- the writes to come lead to the same bytes and marks as all, and lie within the memory, which is as long as before
abbrev pub invariant-loop-each : goal.invariant-loop-each
invariant-loop-each l = record {
  bytes : written_memory (drop l.each-index l.writes) l.memory.bytes ≡ written_memory l.writes l.fn.memory.bytes;
  marks : unmarked_by (drop l.each-index l.writes) l.marks ≡ unmarked_by l.writes l.fn.marks;
  within : lie_within (length l.memory.bytes) (drop l.each-index l.writes) ≡ true;
  aligned : length l.marks ≡ length l.memory.bytes;
  max : l.memory.max ≡ l.fn.memory.max;
}
