-- Where a call of the innermost frame leads.
use Rattle.std.specs.Prelude.{◌≡◌, ℕ, List, [], ◌∷◌, length, Option, Some, slice_get}
use Rattle.wasm_sem.specs.Types.{Value}
use Rattle.wasm_num.specs.declared.Value.TheVariants.{I32}
use Rattle.module_ast.specs.Structure.{Tree, plain, call_indirect, code_of}
use Rattle.wasm_sem.specs.Execution.{Callee, host, callee_type, Instance, instance, Frame, Env, Configuration, configuration, traps, pop_values, call_popped, frame_behind, step, told_popped, told_code, told_items}
use Rattle.wasm_run.specs.declared.functions.HostCall.{HostCall}
use Rattle.wasm_run.specs.declared.functions.Invocation.{Invocation}
use Rattle.wasm_run.specs.declared.functions.Target.{Target}
use Rattle.wasm_run.specs.declared.functions.Target.TheVariants as targets
use Rattle.run_stack.specs.Advances.{IsAtCall}
use Rattle.run_stack.specs.Calls.{NextIsNoCall}
use Rattle.run_stack.specs.Slots.{with_index}
use Rattle.run_store.specs.Resolved.{callee_for, HasSize}
use Rattle.wasm_run.specs.Running.{Run, configuration_of, Innermost}

-- a frame is before a call of this function, with the code `k` behind the call
pub record CallsFrom (inst : Instance) (e : Env) (fr : Frame) (below : List Frame) (slot : Option ℕ) (func : ℕ) (k : Tree) (called : Callee) : Type 0 where
  pub at : IsAtCall fr
  pub ops : List Value
  pub ops_are : fr.top.ops ≡ with_index slot ops
  pub callee : slice_get inst.funcs func ≡ Some called
  pub next_is : step inst (configuration e (fr ∷ below)) ≡ call_popped inst e (frame_behind fr k) below func called (pop_values (length (callee_type called).params) ops [])
  pub told_is : told_code inst e fr.top.rest fr.top.ops ≡ told_popped inst e func called (pop_values (length (callee_type called).params) ops [])

-- the innermost frame is before such a call
abbrev pub Reaches : Instance → Configuration → (slot : Option ℕ) → (func : ℕ) → Tree → Callee → Type 0
Reaches inst (configuration e []) slot func k called = ⊥
Reaches inst (configuration e (fr ∷ below)) slot func k called = CallsFrom inst e fr below slot func k called

-- a frame is before a call through this slot, of a function of this type, with the code `k` behind the call
pub record IsAtSlot (ty : ℕ) (k : Tree) (slot : ℕ) (fr : Frame) : Type 0 where
  pub at : fr.top.rest ≡ plain (call_indirect ty) k
  pub ops : List Value
  pub ops_are : fr.top.ops ≡ I32 slot ∷ ops

-- the call that comes next, with what the frame of its function needs
abbrev pub IsInvocation : Invocation → Run → Type 0
IsInvocation i r =
    Reaches (instance r.module r.script) (configuration_of r) i.slot i.func (code_of i.rest.now) (callee_for i.function) × HasSize r.module i.function

-- the call of a host function that comes next
abbrev pub IsHostCall : HostCall → Run → Type 0
IsHostCall h r = Reaches (instance r.module r.script) (configuration_of r) h.slot h.func (code_of h.rest.now) (host h.ty.now)

-- no call comes next, or one that traps before it reaches a function, or one that calls a function
abbrev pub IsTarget : Target → Run → Type 0
IsTarget targets.NoCall r = Innermost (λ (fr : Frame). NextIsNoCall fr.top.rest) (configuration_of r)
IsTarget (targets.Traps t) r = (step (instance r.module r.script) (configuration_of r) ≡ traps t) × (told_items (instance r.module r.script) (configuration_of r) ≡ [])
IsTarget (targets.Invokes i) r = IsInvocation i r
