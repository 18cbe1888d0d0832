use Rattle.wasm_run.proofs.Progressing.{HasGone}
use Rattle.wasm_run.proofs.machine.Machine.run.Given as goal

-- so many steps were made, none of them after the end
abbrev pub invariant-loop : goal.invariant-loop
invariant-loop g l = HasGone l.counter l.fn.self l.self
