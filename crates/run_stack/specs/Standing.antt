-- A step inside a frame that is no call, on what the machine keeps.
use Rattle.std.specs.Prelude.{◌≡◌, ℕ, ◌≤◌, List, [], ◌∷◌, length}
use Rattle.wasm_sem.specs.Types.{Value, Instr}
use Rattle.module_ast.specs.declared.code.Instr.TheVariants as instrs
use Rattle.module_ast.specs.Structure.{Tree, plain, call, call_indirect}
use Rattle.run_store.specs.Held.{Held}
use Rattle.wasm_sem.specs.declared.Trap.{Trap}
use Rattle.wasm_sem.specs.declared.Answer.TheVariants.{Returned}
use Rattle.wasm_sem.specs.Execution.{Store, Instance, Frame, Env, configuration, Next, reduces, traps, env_after, step}
use Rattle.run_stack.specs.Flat.{Flat}
use Rattle.run_stack.specs.Kept.{all_values, all_spots, Lies}
use Rattle.run_stack.specs.Straight.{held_of}
use Rattle.run_stack.specs.Comes.{IsUnstuck, IsLeftWith}

-- there is room for the values and the labels behind a step
abbrev pub HasRoomFor : (values labels : ℕ) → Next → Type 0
HasRoomFor values labels (reduces (configuration f fs)) = (length (all_values fs) ≤ values) × (length (all_spots fs) ≤ labels)
HasRoomFor values labels _ = Unit {0}

-- likewise; but a call makes its own room when it enters
abbrev pub HasStepRoom : (values labels : ℕ) → Tree → Next → Type 0
HasStepRoom values labels (plain (call f) k) n = Unit {0}
HasStepRoom values labels (plain (call_indirect x) k) n = Unit {0}
HasStepRoom values labels _ n = HasRoomFor values labels n

-- the machine keeps these frames and this store, and the next step has all that it needs
pub record IsStanding (s : Flat) (memory : Held) (globals : List Value) (inst : Instance) (e : Env) (fr : Frame) (below : List Frame) : Type 0 where
  pub lies : Lies s (fr ∷ below)
  pub memory_is : memory ≡ held_of inst.limit e.store
  pub globals_are : globals ≡ e.store.globals
  pub ready : IsUnstuck (step inst (configuration e (fr ∷ below)))
  pub room : HasStepRoom s.value_room s.spot_room fr.top.rest (step inst (configuration e (fr ∷ below)))

pub record KeepsStore (inst : Instance) (st : Store) (memory : Held) (globals : List Value) : Type 0 where
  pub memory_is : memory ≡ held_of inst.limit st
  pub globals_are : globals ≡ st.globals

-- a step was made: the run goes on in a frame, or has the answer of what ran
abbrev pub Went : Instance → Env → Next → Flat → Held → List Value → Type 0
Went inst e (reduces (configuration f [])) s memory globals =
    (vs : List Value) × (f ≡ env_after inst e.phase e (Returned vs)) × IsLeftWith vs s × KeepsStore inst e.store memory globals
Went inst e (reduces (configuration f (fr ∷ below))) s memory globals = Lies s (fr ∷ below) × KeepsStore inst f.store memory globals
Went inst e _ s memory globals = ⊥

-- the step trapped
abbrev pub Trapped : Instance → Env → Next → Trap → Held → List Value → Type 0
Trapped inst e (traps t) u memory globals = (t ≡ u) × KeepsStore inst e.store memory globals
Trapped inst e _ u memory globals = ⊥

abbrev pub IsCall : Instr → Type 0
IsCall (instrs.Call f) = Unit {0}
IsCall (instrs.CallIndirect x) = Unit {0}
IsCall _ = ⊥
