use Rattle.std.proofs.Common.{◌≡◌, ◌++◌, drop}
use Rattle.wasm_sem.specs.Execution.{values_of}
use Rattle.wasm_run.proofs.host.values_of.Given as goal

-- the values so far, and those to come
abbrev pub invariant-loop-place : goal.invariant-loop-place
invariant-loop-place l = l.values ++ values_of (drop l.place l.types) (drop l.place l.numbers) ≡ values_of l.types l.numbers
