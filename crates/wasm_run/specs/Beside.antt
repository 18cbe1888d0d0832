-- What a run has apart from its frames, memory and globals: what runs, the answers so far, the table, and the number of
-- host calls.
use Rattle.std.specs.Prelude.{◌≡◌, ℕ, ◌≤◌, List, Option}
use Rattle.wasm_sem.specs.Types.{Module, Value}
use Rattle.module_ast.specs.Memory.{pages}
use Rattle.wasm_sem.specs.declared.Script.{Script}
use Rattle.wasm_sem.specs.Execution.{hosts_in, opening_store, Env, Configuration, configuration, run_of}
use Rattle.wasm_sem.specs.Rules.{HasSameRest}
use Rattle.run_store.specs.Held.{Held}
use Rattle.run_store.specs.declared.functions.Function.{Function}
use Rattle.run_store.specs.Resolved.{AreFunctionsOf}
use Rattle.run_stack.specs.Flat.{Flat}
use Rattle.wasm_run.specs.Running.{IsRunning}

-- the same runs, and the answers are the same
pub record GoesOnBeside (old new : Env) : Type 0 where
  pub phase : new.phase ≡ old.phase
  pub started : new.started ≡ old.started
  pub answers : new.answers ≡ old.answers
  pub store : HasSameRest old.store new.store

-- how many pages the memory has
abbrev pub pages_in : Configuration → ℕ
pages_in (configuration e fs) = pages e.store.memory

-- the run made `hosts` host calls, at most one in a step
pub record HasMadeHosts (m : Module) (s : Script) (made hosts : ℕ) : Type 0 where
  pub counted : hosts_in (run_of m s made) ≡ hosts
  pub few : hosts ≤ made

-- the table when the run opened, which no step changes
abbrev pub IsTableOf : Module → Script → List (Option ℕ) → Type 0
IsTableOf m s slots = slots ≡ (opening_store m s).slots

-- what the machine keeps of a run after `made` steps
pub record KeepsRun (m : Module) (s : Script) (made : ℕ) (f : Flat) (memory : Held) (globals : List Value) (hosts : ℕ) (functions : List Function) (table : List (Option ℕ)) : Type 0 where
  pub running : IsRunning m s made f memory globals
  pub counted : HasMadeHosts m s made hosts
  pub functions_are : AreFunctionsOf m functions
  pub table_is : IsTableOf m s table
