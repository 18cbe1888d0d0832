use Rattle.std.proofs.Common.{◌≡◌, length, drop}
use Rattle.wasm_sem.specs.Execution.{fit_types}
use Rattle.run_session.proofs.link.fit_types.Given as goal

abbrev pub invariant-loop-ty : goal.invariant-loop-ty
invariant-loop-ty l = fit_types l.types l.numbers ≡ fit_types (drop (length l.yielded) l.types) (drop (length l.yielded) l.numbers)
