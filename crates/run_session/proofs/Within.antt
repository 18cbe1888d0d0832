-- A run makes no more steps than its script has.
use Rattle.std.proofs.Common.{◌≡◌, ℕ, ◌≤◌, refl, sym, subst, arith}
use Rattle.wasm_sem.specs.Types.{Module}
use Rattle.wasm_sem.specs.declared.Script.{Script}
use Rattle.wasm_sem.specs.Execution.{IsScriptInRange}
use Rattle.wasm_run.specs.Running.{Run}
use Rattle.run_session.specs.Sessions.{opened_run}
use Rattle.run_session.specs.Steps.{IsWithinSteps}

-- before the first one
pub opened_within : (r : Run) (m : Module) (s : Script) → r ≡ opened_run m s → IsScriptInRange s → IsWithinSteps r s.steps
opened_within r m s e range = subst (λ (q : Run). IsWithinSteps q s.steps) (sym e) (record { made = omega arith; steps_are = refl; few = range.steps })

pub within_script : (r q : Run) (steps : ℕ) → r ≡ q → IsWithinSteps r steps → q.made ≤ q.script.steps
within_script r q steps e h = subst (λ (p : Run). p.made ≤ p.script.steps) e (subst (λ n. r.made ≤ n) (sym h.steps_are) h.made)
