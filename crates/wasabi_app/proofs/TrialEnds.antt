-- Each trial ends.
use Rattle.std.proofs.Common.{◌≡◌, ◌∙◌, ℕ, ◌+◌, ◌-◌, ◌*◌, ◌≤◌, List, [], ◌∷◌, ap, arith}
use Rattle.std.proofs.Math.Nat.{mul-le-mul_left}
use Rattle.std.specs.List.{AllByRecursion}
use Rattle.wasm_sem.specs.Types.{Body, Module}
use Rattle.module_ast.specs.Places.{code_nesting}
use Rattle.wasm_sem.specs.Execution.{summary, run_of}
use Rattle.wasm_sem.proofs.Ended.{stays_over}
use Rattle.rewrite.specs.Cost.{body_nesting, cost}
use Rattle.instrument.specs.Same.{IsOver, env_in}
use Rattle.module_gen.specs.Draws.{stepped}
use Rattle.module_gen.specs.Made.{functions, made}
use Rattle.module_gen.proofs.MadeBodies.{IsModest, bodies_modest}
use Rattle.made_runs.specs.Runs.{MainReturns}
use Rattle.made_runs.proofs.Whole.{made_modules_end}
use Rattle.wasabi_app.specs.Modes.Trial.{all_hooks, first_steps, second_steps, trial_output, trial_script}
use Rattle.wasabi_app.specs.Playing.{finish_of}
use Rattle.wasabi_app.specs.TrialEnds.{TrialEnds, TrialsEnd}
use Rattle.wasabi_app.proofs.Alike.{ends_later, over_alike, over_is, over_later}
use Rattle.wasabi_app.proofs.TrialTold.{runs_alike}

-- ---- what a step of the original costs its output

flat_most : (m : Module) (bs : List Body) → AllByRecursion IsModest bs → body_nesting (record m { bodies = bs }) ≤ 2
flat_most m [] all = omega arith
flat_most m (b ∷ bs) all =
    let one : code_nesting b.code ≤ 2 = all.0.flat in
    let others : body_nesting (record m { bodies = bs }) ≤ 2 = flat_most m bs all.1 in
    omega (arith, one, others)

cost_few : (number : ℕ) → cost (made number) ≤ 96
cost_few number =
    let flat : body_nesting (made number) ≤ 2 = flat_most (made number) (made number).bodies (bodies_modest (functions number) (stepped number) (omega arith) (omega arith)) in
    omega (arith, flat)

-- ---- both runs

module _ (number : ℕ) where
  abbrev returned : (steps : ℕ) → MainReturns number steps
  returned steps = made_modules_end number steps

  over_there : (steps : ℕ) → IsOver (made number) (trial_script number steps) (returned steps).count
  over_there steps = ap (λ c. (env_in c).phase) (returned steps).is

  pub trial_ends : TrialEnds number
  trial_ends =
      let m = made number in
      let o = trial_output number in
      let s = trial_script number first_steps in
      let t = trial_script number second_steps in
      let first = returned first_steps in
      let second = returned second_steps in
      let dear : cost m * (second.count + 1) ≤ second_steps =
      (let few = cost_few number in let most = second.few in let scaled = mul-le-mul_left (second.count + 1) few in omega (arith, scaled, most)) in
      let over_o : IsOver o t second_steps = ends_later m all_hooks o t (runs_alike number) second.count second_steps (over_there second_steps) dear in
      record {
        original = over_later m s first.count first_steps (let most = first.few in omega (arith, most)) (over_there first_steps);
        output = over_o;
        value = first.value;
        returned =
            ap (λ n. (env_in (run_of m s n)).answers) (let e : first_steps ≡ first.count + (first_steps - first.count) = (let most = first.few in omega (arith, most)) in e)
            ∙ ap (λ c. (env_in c).answers)
            (stays_over m s first.count (first_steps - first.count) (over_is (run_of m s first.count) (over_there first_steps)) ∙ first.is);
        finish = ap finish_of (over_alike m all_hooks o t (runs_alike number) second.count second_steps (over_there second_steps) over_o ∙ ap summary second.is);
      }

pub trials_end : TrialsEnd
trials_end number = trial_ends number
