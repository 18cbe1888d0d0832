use Rattle.std.proofs.Common.{◌≡◌, drop, length}
use Rattle.wasm_sem.specs.Execution.{writes_done, written_memory}
use Rattle.wasm_run.proofs.host.write_all.Given as goal

-- the writes to come lead to the same bytes as all, and the memory is as long as before
abbrev pub invariant-loop-write : goal.invariant-loop-write
invariant-loop-write l = record {
  told : written_memory (writes_done l.fn.memory.bytes (drop l.write-index l.writes)) l.memory.bytes ≡ written_memory (writes_done l.fn.memory.bytes l.writes) l.fn.memory.bytes;
  long : length l.memory.bytes ≡ length l.fn.memory.bytes;
  max : l.memory.max ≡ l.fn.memory.max;
}
