-- That each trial ends.
use Rattle.std.specs.Prelude.{◌≡◌, ℕ, [], ◌∷◌}
use Rattle.wasm_num.specs.declared.Value.TheVariants.{I32}
use Rattle.wasm_sem.specs.declared.Answer.TheVariants.{Returned}
use Rattle.instrument.specs.Same.{IsOver, env_of}
use Rattle.module_gen.specs.Made.{made}
use Rattle.app_load.specs.Plans.{done}
use Rattle.wasabi_app.specs.Modes.Trial.{first_steps, second_steps, pair_finish, trial_output, trial_script}

-- The run of the module that is made of a number, and the run of its output, are both over in the steps that the trial
-- gives them. The call returns a value, and nothing traps.
pub record TrialEnds (number : ℕ) : Type 0 where
  pub original : IsOver (made number) (trial_script number first_steps) first_steps
  pub output : IsOver (trial_output number) (trial_script number second_steps) second_steps
  pub value : ℕ
  pub returned : (env_of (made number) (trial_script number first_steps) first_steps).answers ≡ Returned (I32 value ∷ []) ∷ []
  pub finish : pair_finish number second_steps (made number) ≡ done

abbrev pub TrialsEnd : Type 0
TrialsEnd = (number : ℕ) → TrialEnds number
