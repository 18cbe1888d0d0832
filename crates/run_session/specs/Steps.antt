-- The number of steps that a run has made.
use Rattle.std.specs.Prelude.{◌≡◌, ℕ, ◌≤◌}
use Rattle.wasm_run.specs.Running.{Run}

-- the run has made at most as many steps as its script has, which are `steps`
pub record IsWithinSteps (r : Run) (steps : ℕ) : Type 0 where
  pub made : r.made ≤ steps
  pub steps_are : r.script.steps ≡ steps
  pub few : steps ≤ 1000000000000
