use Rattle.std.proofs.Common.{◌≡◌, drop}
use Rattle.wasm_sem.specs.Execution.{fit_elements}
use Rattle.run_session.proofs.link.fit_elements.Given as goal

abbrev pub invariant-loop-element : goal.invariant-loop-element
invariant-loop-element l = fit_elements l.globals l.slots l.elements ≡ fit_elements l.globals l.slots (drop l.element-index l.elements)
