use Rattle.std.proofs.Common.{OnErr, subst, rules}
use Rattle.wasm_run.specs.Moves.{MayWant}
use Rattle.wasm_run.specs.Running.{Run, configuration_of}
use Rattle.run_session.proofs.session.Session.call.Goals as goal

pub returns-clause-err : goal.returns-clause-err
returns-clause-err g c = subst (λ (r : Run). OnErr c.step.result (MayWant (configuration_of r))) c.self.view_is c.step.ensures.err

pub invariant_of-self : goal.invariant_of-self
invariant_of-self g c = search rules

pub returns-clause-turn : goal.returns-clause-turn
returns-clause-turn g c = search rules

pub returns-clause-within : goal.returns-clause-within
returns-clause-within g c = search rules
