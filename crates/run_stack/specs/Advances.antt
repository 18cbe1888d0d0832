-- What a step inside a frame answers.
use Rattle.std.specs.Prelude.{◌≡◌, List, ◌∷◌, Result, Ok, Err}
use Rattle.std.specs.declared.alloc.AllocError.{AllocError}
use Rattle.wasm_sem.specs.Types.{Value, Instr}
use Rattle.module_ast.specs.declared.code.Instr.TheVariants as instrs
use Rattle.module_ast.specs.Structure.{Tree, before}
use Rattle.run_store.specs.Held.{Held}
use Rattle.wasm_sem.specs.Execution.{Instance, Frame, Env, configuration, step}
use Rattle.run_stack.specs.Calls.{NextIsNoCall}
use Rattle.run_stack.specs.Flat.{Flat}
use Rattle.run_stack.specs.Standing.{IsStanding, Went, Trapped, IsCall}
use Rattle.run_stack.specs.declared.steps.Did.{Did}
use Rattle.run_stack.specs.declared.steps.Did.TheVariants as dids

-- the innermost frame is before this code
pub record IsAtPlace (s : Flat) (memory : Held) (globals : List Value) (place : Tree) (inst : Instance) (e : Env) (fr : Frame) (below : List Frame) : Type 0 where
  pub standing : IsStanding s memory globals inst e fr below
  pub at : fr.top.rest ≡ place

-- the frame is before a call
pub record IsAtCall (fr : Frame) : Type 0 where
  pub instr : Instr
  pub rest : Tree
  pub at : fr.top.rest ≡ before instr rest
  pub call : IsCall instr

-- the frame is before a `memory.grow`
pub record IsAtGrow (fr : Frame) : Type 0 where
  pub rest : Tree
  pub at : fr.top.rest ≡ before instrs.MemoryGrow rest

-- everything is as before
pub record IsSame (s : Flat) (memory : Held) (globals : List Value) (t : Flat) (m : Held) (g : List Value) : Type 0 where
  pub stack : t ≡ s
  pub memory_is : m ≡ memory
  pub globals_are : g ≡ globals

abbrev pub Advances : Instance → Env → Frame → List Frame → Result Did AllocError → Flat → Held → List Value → Flat → Held → List Value → Type 0
Advances inst e fr below (Ok dids.Went) s memory globals t m g = Went inst e (step inst (configuration e (fr ∷ below))) t m g
Advances inst e fr below (Ok (dids.Trapped u)) s memory globals t m g = Trapped inst e (step inst (configuration e (fr ∷ below))) u m g
Advances inst e fr below (Ok dids.Calls) s memory globals t m g = IsAtCall fr × IsSame s memory globals t m g
Advances inst e fr below (Err u) s memory globals t m g = IsAtGrow fr × IsSame s memory globals t m g

-- if a step was made from this code, the code does not begin with a call
abbrev pub GoesAtNoCall : Result Did AllocError → Tree → Type 0
GoesAtNoCall (Ok dids.Went) k = NextIsNoCall k
GoesAtNoCall _ k = Unit {0}
