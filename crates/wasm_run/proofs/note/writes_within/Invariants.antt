use Rattle.std.proofs.Common.{◌≡◌, ◌++◌, drop}
use Rattle.std.specs.Prelude.{filter}
use Rattle.wasm_sem.specs.Execution.{is_within}
use Rattle.wasm_run.proofs.note.writes_within.Given as goal

-- the writes so far, and those to come
abbrev pub invariant-loop-write : goal.invariant-loop-write
invariant-loop-write l = l.done.items ++ filter (is_within l.size) (drop l.write-index l.writes) ≡ filter (is_within l.size) l.writes
