-- How far the start function and the calls of a script have come.
use Rattle.std.specs.Prelude.{◌≡◌, ℕ, ◌<◌, ℤ, List, length, map, Option, Some, None, Result, Ok, Err, Bool, true, false, vec_capacity}
use Rattle.std.specs.declared.alloc.AllocError.{AllocError}
use Rattle.wasm_sem.specs.Types.{Module}
use Rattle.wasm_sem.specs.declared.Answer.{Answer}
use Rattle.wasm_sem.specs.declared.Call.{Call}
use Rattle.wasm_sem.specs.declared.Script.{Script}
use Rattle.wasm_sem.specs.Execution.{Callee, exported_func, Instance, instance, Phase, starting, calling, over, Env, env_after, is_over}
use Rattle.wasm_run.specs.declared.progress.Stage.{Stage}
use Rattle.wasm_run.specs.declared.progress.Stage.TheVariants as stages
use Rattle.wasm_run.specs.declared.progress.Progress.{Progress}
use Rattle.wasm_run.specs.Entries.{EntersNext}
use Rattle.wasm_run.specs.Moves.{env_beside, MayWant, MakesStep}
use Rattle.wasm_run.specs.Running.{Run, configuration_of, one_more, IsLinked, IsInside}

-- what runs or is entered next: the start function, with its index, or a call of the script by its number
abbrev pub IsStage : Module → Stage → Phase → Type 0
IsStage m (stages.Start f) p = (m.start ≡ Some f) × (p ≡ starting)
IsStage m (stages.Call n) p = p ≡ calling n
IsStage m stages.Over p = p ≡ over

-- what runs or is entered next, and the answers so far
pub record TellsProgress (m : Module) (e : Env) (p : Progress) : Type 0 where
  pub stage : IsStage m p.stage e.phase
  pub started : p.started ≡ e.started
  pub answers : p.answers.items ≡ e.answers

-- if what ran has ended with an answer, the next phase has come
abbrev pub env_by : Instance → Option Answer → Env → Env
env_by inst None e = e
env_by inst (Some a) e = env_after inst e.phase e a

-- there is room for an answer, and the call that runs is one of `calls`
pub record AwaitsAnswer (calls : ℕ) (p : Progress) : Type 0 where
  pub room : length p.answers.items < vec_capacity p.answers
  pub number : (n : ℕ) → p.stage ≡ stages.Call n → n < calls

-- what ran has ended with this answer, and the next of `calls` calls comes; or it runs on
pub record MovesOn (calls : ℕ) (ended : Option Answer) (old new : Progress) : Type 0 where
  pub tells : (m : Module) (inst : Instance) (e : Env) → length inst.calls ≡ calls → TellsProgress m e old → TellsProgress m (env_by inst ended e) new
  pub same : ended ≡ None → new ≡ old

-- one step of a function was made, and if what ran has ended by it, the progress has the answer; no step if memory ran
-- out
abbrev pub StepsInside : {A : Type 0} → (calls : ℕ) → Result A AllocError → (old new : Run) → (told next : Progress) → Type 0
StepsInside calls (Ok u) old new told next = (a : Option Answer) × MakesStep (Ok a) old new × MovesOn calls a told next
StepsInside calls (Err u) old new told next = MakesStep (Err u) old new × (next ≡ told)

-- the functions of a script's calls, by their indices
abbrev pub AreCalled : Module → Script → List ℕ → Type 0
AreCalled m s functions = map Some functions ≡ map (λ (c : Call). exported_func c.export.bytes m.exports) s.calls

-- while a function runs there is room for its answer
pub record KeepsAnswers (r : Run) (p : Progress) (functions : List ℕ) : Type 0 where
  pub linked : IsLinked r.module r.script
  pub tells : TellsProgress r.module (env_beside (configuration_of r)) p
  pub room : IsInside (configuration_of r) → length p.answers.items < vec_capacity p.answers
  pub functions_are : AreCalled r.module r.script functions

-- this function is entered next, with the values that the numbers stand for
abbrev pub IsEntry : Run → (func : ℕ) → (numbers : List ℤ) → Type 0
IsEntry r func numbers = (called : Callee) × EntersNext (instance r.module r.script) (configuration_of r) func numbers called

-- one step was made, or the run is over; no step if memory ran out
abbrev pub TakesStep : Result Bool AllocError → (old new : Run) → Type 0
TakesStep (Ok true) old new = (new ≡ one_more old) × (is_over (configuration_of old) ≡ false)
TakesStep (Ok false) old new = (new ≡ old) × (is_over (configuration_of old) ≡ true)
TakesStep (Err u) old new = (new ≡ old) × MayWant (configuration_of old) × (is_over (configuration_of old) ≡ false)
