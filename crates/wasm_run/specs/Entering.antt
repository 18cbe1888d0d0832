-- A call of a function of the module, on what the machine keeps.
use Rattle.std.specs.Prelude.{◌≡◌, ℕ, ◌+◌, ◌≤◌, ℤ, List, [], ◌∷◌, ◌++◌, length, Option, Some, None}
use Rattle.wasm_sem.specs.Types.{Value, FuncType, Body}
use Rattle.module_ast.specs.Validation.{declared_locals}
use Rattle.wasm_sem.specs.declared.Trap.{Trap}
use Rattle.wasm_sem.specs.Execution.{Instance, values_of, Frame, Env, configuration, Next, reduces, traps, pop_values, with_ops, new_frame, enter}
use Rattle.run_stack.specs.Flat.{Flat}
use Rattle.run_stack.specs.Kept.{Lies}

-- a frame that calls a function of the module with the topmost operands
pub record IsCalling (s : Flat) (inst : Instance) (fr : Frame) (below : List Frame) (ty : FuncType) (args rest : List Value) : Type 0 where
  pub lies : Lies s (fr ∷ below)
  pub popped : pop_values (length ty.params) fr.top.ops [] ≡ Some (args, rest)

-- the frame of the call, or a trap if there are too many frames
abbrev pub entered_next : Instance → Env → Frame → List Frame → (func : ℕ) → FuncType → Body → (args rest : List Value) → Next
entered_next inst e fr below f ty body args rest =
    enter inst e (with_ops fr rest ∷ below) (new_frame f ty (declared_locals body.groups) body.code args)

abbrev pub HasEntered : Env → Option Trap → Next → Flat → Type 0
HasEntered e None (reduces (configuration f fs)) s = (f ≡ e) × Lies s fs
HasEntered e (Some t) (traps u) s = t ≡ u
HasEntered e _ _ s = ⊥

-- ---- the only frame

-- A function of the module was entered by the start or by a call of the script, with the values that the numbers stand
-- for. There is room for its locals, for `height` operands and for `nesting` labels inside its own.
pub record StandsAlone (ty : FuncType) (body : Body) (numbers : List ℤ) (height nesting : ℕ) (f : Flat) : Type 0 where
  pub lies : (func : ℕ) → Lies f (new_frame func ty (declared_locals body.groups) body.code (values_of ty.params numbers) ∷ [])
  pub values_fit : length (ty.params ++ declared_locals body.groups) + height ≤ f.value_room
  pub labels_fit : 1 + nesting ≤ f.spot_room
