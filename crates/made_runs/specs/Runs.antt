-- Made modules run to their end.
use Rattle.std.specs.Prelude.{◌≡◌, ℕ, ◌%◌, ◌^◌, ◌≤◌, pos, [], ◌∷◌, None}
use Rattle.wasm_num.specs.declared.Value.TheVariants.{I32}
use Rattle.wasm_sem.specs.declared.Answer.TheVariants.{Returned}
use Rattle.wasm_sem.specs.declared.Script.{Script}
use Rattle.wasm_sem.specs.Execution.{Store, Configuration, configuration, over, run_of}
use Rattle.module_gen.specs.Made.{main_text, made}

-- the export `main` is called with the number modulo 2 ^ 32, and no host answers
abbrev pub main_script : (number steps : ℕ) → Script
main_script number steps = record {
  calls = record { export = main_text; args = pos (number % 2 ^ 32) ∷ [] } ∷ [];
  hosts = [];
  globals = [];
  pages = 4;
  depth = 10000;
  steps = steps;
}

-- the run is over, and its one call has returned a value
abbrev pub ended : (value : ℕ) → Store → Configuration
ended value st = configuration (record { phase = over; started = None; answers = Returned (I32 value ∷ []) ∷ []; store = st }) []

-- in at most 1,400,000 steps the run comes to that end
pub record MainReturns (number steps : ℕ) : Type 0 where
  pub count : ℕ
  pub few : count ≤ 1400000
  pub value : ℕ
  pub store : Store
  pub is : run_of (made number) (main_script number steps) count ≡ ended value store

abbrev pub MadeModulesEnd : Type 0
MadeModulesEnd = (number steps : ℕ) → MainReturns number steps
