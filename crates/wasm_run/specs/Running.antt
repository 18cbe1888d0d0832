-- A run as the machine keeps it: a module, a script, and how many steps were made.
use Rattle.std.specs.Prelude.{◌≡◌, ℕ, ◌+◌, List, [], ◌∷◌, Bool, true, false}
use Rattle.wasm_sem.specs.Types.{Value, Module}
use Rattle.module_ast.specs.Validation.{IsValid, IsComplete}
use Rattle.run_store.specs.Held.{Held}
use Rattle.wasm_sem.specs.declared.Script.{Script}
use Rattle.wasm_sem.specs.Execution.{instance, IsScriptInRange, Links, Frame, Configuration, configuration, run_of}
use Rattle.run_stack.specs.Flat.{Flat}
use Rattle.run_stack.specs.Kept.{Lies}
use Rattle.run_stack.specs.Standing.{KeepsStore}
use Rattle.wasm_run.specs.Rooms.{HaveRoom}

-- the configuration after the steps is `run_of «module» script made`
pub record Run : Type 0 where
  pub «module» : Module
  pub script : Script
  pub made : ℕ

-- the configuration of the run
abbrev pub configuration_of : Run → Configuration
configuration_of r = run_of r.module r.script r.made

-- the run with one step more
abbrev pub one_more : Run → Run
one_more r = record r { made = r.made + 1 }

-- a valid module that links with a script
pub record IsLinked (m : Module) (s : Script) : Type 0 where
  pub valid : IsValid m
  pub complete : IsComplete m
  pub range : IsScriptInRange s
  pub links : Links m s

-- The machine keeps this configuration, with room for each frame. If no frame is left, it may still have the values of
-- the last one.
abbrev pub KeepsConfiguration : Module → Script → Configuration → Flat → Held → List Value → Type 0
KeepsConfiguration m s (configuration e []) f memory globals = (f.bases ≡ []) × KeepsStore (instance m s) e.store memory globals
KeepsConfiguration m s (configuration e (fr ∷ below)) f memory globals =
    Lies f (fr ∷ below) × KeepsStore (instance m s) e.store memory globals × HaveRoom m f.value_room f.spot_room (fr ∷ below)

pub record IsRunning (m : Module) (s : Script) (made : ℕ) (f : Flat) (memory : Held) (globals : List Value) : Type 0 where
  pub linked : IsLinked m s
  pub keeps : KeepsConfiguration m s (run_of m s made) f memory globals

-- a function runs
abbrev pub IsInside : Configuration → Type 0
IsInside (configuration e []) = ⊥
IsInside (configuration e (fr ∷ below)) = Unit {0}

-- the flag says whether A holds
abbrev pub HoldsIf : Bool → Type 0 → Type 0
HoldsIf true A = A
HoldsIf false A = A → ⊥

-- there is an innermost frame, and P holds of it
abbrev pub Innermost : (Frame → Type 0) → Configuration → Type 0
Innermost P (configuration e []) = ⊥
Innermost P (configuration e (fr ∷ below)) = P fr
