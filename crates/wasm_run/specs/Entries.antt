-- The start function, or a call of the script, that is entered next.
use Rattle.std.specs.Prelude.{◌≡◌, ℕ, ℤ, List, [], ◌∷◌, Some, slice_get}
use Rattle.wasm_sem.specs.Execution.{values_of, Callee, callee_type, Instance, Env, Configuration, configuration, invoke, enter_phase, entry, told_invoke, told_begins}

-- this function is entered next, with the values that the numbers stand for
pub record EntersWith (inst : Instance) (e : Env) (func : ℕ) (numbers : List ℤ) (called : Callee) : Type 0 where
  pub callee : slice_get inst.funcs func ≡ Some called
  pub next_is : enter_phase inst e e.phase ≡ invoke inst e [] func called (values_of (callee_type called).params numbers)
  pub told_is : told_begins inst e e.phase
      ≡ entry (record { func = func; args = values_of (callee_type called).params numbers }) ∷ told_invoke inst e func called (values_of (callee_type called).params numbers)

-- no function runs, and this one is entered
abbrev pub EntersNext : Instance → Configuration → (func : ℕ) → (numbers : List ℤ) → Callee → Type 0
EntersNext inst (configuration e []) func numbers called = EntersWith inst e func numbers called
EntersNext inst (configuration e (fr ∷ below)) func numbers called = ⊥

-- this function is entered next, by whatever index and with whatever numbers
abbrev pub EntersFunction : Instance → Configuration → Callee → Type 0
EntersFunction inst c called = (func : ℕ) × (numbers : List ℤ) × EntersNext inst c func numbers called
