-- The start, or the call of the script, that is entered next.
use Rattle.std.proofs.Common.{◌≡◌, ℕ, zero, suc, ◌<◌, ℤ, false, List, [], ◌∷◌, length, Option, Some, None, refl, sym, ap, subst, ◌∙◌, arith, slice_get}
use Rattle.std.specs.Prelude.{option_map, is_some, Bool, true}
use Rattle.std.proofs.lemmas.Bool.{false≢true}
use Rattle.std.proofs.lemmas.List.{length-map}
use Rattle.std.proofs.lemmas.Option.{none-some, same_Some, slice_get-map, slice_get_within}
use Rattle.wasm_sem.specs.Types.{ValType, Value, Module}
use Rattle.wasm_sem.specs.declared.Call.{Call}
use Rattle.wasm_sem.specs.declared.Script.{Script}
use Rattle.wasm_sem.specs.Execution.{entry, Callee, callee_type, callees_of, func_at, exported_func, Entry, entry_with, entry_to, entry_of, Instance, instance, no_export, call_refusal, calls_refusal, Frame, Env, is_last, Configuration, configuration, Phase, starting, calling, over, invoke, enter_callee, enter_entry, start_entry, call_entry, enter_phase, is_over, run_of, values_of, told_invoke, told_callee, told_begun, told_begins}
use Rattle.wasm_sem.specs.Typed.{HaveTypes, IsPhaseTyped, IsConfigurationTyped}
use Rattle.wasm_sem.proofs.SoundEntries.{no_refusal, start_enters, call_enters, can_link}
use Rattle.wasm_sem.proofs.Sound.{always_typed}
use Rattle.wasm_run.specs.Entries.{EntersWith, EntersNext}
use Rattle.wasm_run.specs.Moves.{env_beside, MayWant}
use Rattle.wasm_run.specs.Progress.{AreCalled}
use Rattle.wasm_run.specs.Running.{IsLinked, IsInside}

-- ---- a call by its number

called_at : (m : Module) (s : Script) (functions : List ℕ) (n : ℕ) (c : Call) → AreCalled m s functions → slice_get s.calls n ≡ Some c → option_map Some (slice_get functions n) ≡ Some (exported_func c.export.bytes m.exports)
called_at m s functions n c are at =
    sym (slice_get-map Some functions n) ∙ ap (λ (os : List (Option ℕ)). slice_get os n) are
    ∙ slice_get-map (λ (c : Call). exported_func c.export.bytes m.exports) s.calls n ∙ ap (option_map (λ (c : Call). exported_func c.export.bytes m.exports)) at

exported_at : (m : Module) (s : Script) (functions : List ℕ) (n f : ℕ) (c : Call) → AreCalled m s functions → slice_get s.calls n ≡ Some c → slice_get functions n ≡ Some f → exported_func c.export.bytes m.exports ≡ Some f
exported_at m s functions n f c are at there =
    sym (same_Some (Some f) (exported_func c.export.bytes m.exports) (ap (option_map Some) (sym there) ∙ called_at m s functions n c are at))

-- as many functions as calls
pub called_count : (m : Module) (s : Script) (functions : List ℕ) → AreCalled m s functions → length functions ≡ length s.calls
called_count m s functions are = sym (length-map functions Some) ∙ ap length are ∙ length-map s.calls (λ (c : Call). exported_func c.export.bytes m.exports)

-- and as many calls to enter
pub calls_count : (m : Module) (s : Script) (functions : List ℕ) → AreCalled m s functions → length (instance m s).calls ≡ length functions
calls_count m s functions are = length-map s.calls (entry_of m) ∙ sym (called_count m s functions are)

-- a call of what is not exported is refused
refused : (m : Module) (first : ℕ) (d : Call) → call_refusal first d.args (func_at (callees_of m) (exported_func d.export.bytes m.exports)) ≡ None → exported_func d.export.bytes m.exports ≡ None → ⊥
refused m first d h none = none-some (no_export first) (sym h ∙ ap (λ o. call_refusal first d.args (func_at (callees_of m) o)) none)

-- where a script links each of its calls is of a function that is exported
pub call_exported : (m : Module) (cs : List Call) (first n : ℕ) (c : Call) → calls_refusal m first cs ≡ None → slice_get cs n ≡ Some c → exported_func c.export.bytes m.exports ≡ None → ⊥
call_exported m [] first n c h at none = none-some c at
call_exported m (d ∷ ds) first zero c h at none =
    refused m first d (no_refusal (call_refusal first d.args (func_at (callees_of m) (exported_func d.export.bytes m.exports))) (calls_refusal m (suc first) ds) h).0
    (ap (λ (c : Call). exported_func c.export.bytes m.exports) (same_Some d c at) ∙ none)
call_exported m (d ∷ ds) first (suc n) c h at none =
    call_exported m ds (suc first) n c (no_refusal (call_refusal first d.args (func_at (callees_of m) (exported_func d.export.bytes m.exports))) (calls_refusal m (suc first) ds) h).1 at none

-- ---- what is entered

-- no types have no values
none_typed : (ts : List ValType) → HaveTypes ts [] → values_of ts [] ≡ []
none_typed [] h = refl
none_typed (t ∷ ts) h = absurd h

module _ (m : Module) (s : Script) where
  abbrev inst : Instance
  inst = instance m s

  enters_as : (e : Env) (o : Option Entry) (f : ℕ) (args : List Value) (called : Callee) → o ≡ Some (record { func = f; args = args }) → slice_get (callees_of m) f ≡ Some called
      → (enter_entry inst e o ≡ invoke inst e [] f called args) × (told_begun inst e o ≡ entry (record { func = f; args = args }) ∷ told_invoke inst e f called args)
  enters_as e o f args called h at = (
    ap (enter_entry inst e) h ∙ ap (enter_callee inst e (record { func = f; args = args })) at,
    ap (told_begun inst e) h ∙ ap (told_callee inst e (record { func = f; args = args })) at,
  )

  module _ (linked : IsLinked m s) (e : Env) where
    -- the start function
    pub start_next : (f : ℕ) → m.start ≡ Some f → e.phase ≡ starting → (called : Callee) × EntersWith inst e f [] called
    start_next f at phase =
        let h = start_enters m f linked.valid linked.complete.bodies at in
        let same = same_Some (record { func = f; args = [] }) (record { func = h.func; args = h.args }) (sym (ap start_entry at) ∙ h.is) in
        let called : slice_get (callees_of m) f ≡ Some h.callee = ap (λ (c : Entry). slice_get (callees_of m) c.func) same ∙ h.at in
        let none : HaveTypes (callee_type h.callee).params [] = subst (HaveTypes (callee_type h.callee).params) (sym (ap (λ (c : Entry). c.args) same)) h.types in
        let is : start_entry m.start ≡ Some (record { func = f; args = values_of (callee_type h.callee).params [] }) =
        ap start_entry at ∙ ap (λ (args : List Value). Some (record { func = f; args = args })) (sym (none_typed (callee_type h.callee).params none)) in
        let r = enters_as e (start_entry m.start) f (values_of (callee_type h.callee).params []) h.callee is called in
        (h.callee, record { callee = called; next_is = ap (enter_phase inst e) phase ∙ r.0; told_is = ap (told_begins inst e) phase ∙ r.1 })

    -- a call of the script
    pub call_next : (functions : List ℕ) (n f : ℕ) (c : Call) → AreCalled m s functions → slice_get s.calls n ≡ Some c → slice_get functions n ≡ Some f → e.phase ≡ calling n → (called : Callee) × EntersWith inst e f c.args called
    call_next functions n f c are at there phase =
        let within : n < length (instance m s).calls = omega (arith, slice_get_within s.calls n c at, length-map s.calls (entry_of m)) in
        let h = call_enters m s n (can_link m s linked.links) within in
        let is : call_entry (slice_get inst.calls n) ≡ entry_with c.args f (slice_get (callees_of m) f) =
        ap call_entry (slice_get-map (entry_of m) s.calls n ∙ ap (option_map (entry_of m)) at) ∙ ap (entry_to (callees_of m) c.args) (exported_at m s functions n f c are at there) in
        go (slice_get (callees_of m) f) refl (sym is ∙ h.is) is
      where
        go : (o : Option Callee) → slice_get (callees_of m) f ≡ o → {x : Entry} → entry_with c.args f o ≡ Some x → call_entry (slice_get inst.calls n) ≡ entry_with c.args f o → (called : Callee) × EntersWith inst e f c.args called
        go None at {x} some is = absurd (none-some x some)
        go (Some called) at some is =
            let r = enters_as e (call_entry (slice_get inst.calls n)) f (values_of (callee_type called).params c.args) called is at in
            (called, record { callee = at; next_is = ap (enter_phase inst e) phase ∙ r.0; told_is = ap (told_begins inst e) phase ∙ r.1 })

  -- a call that is entered is one of the script
  pub number_within : (linked : IsLinked m s) (functions : List ℕ) (made n : ℕ) → AreCalled m s functions → (env_beside (run_of m s made)).phase ≡ calling n → n < length functions
  number_within linked functions made n are phase = go (run_of m s made) (always_typed m s linked.valid linked.complete linked.range.writes (can_link m s linked.links) made) phase
    where
      go : (c : Configuration) → IsConfigurationTyped m s c → (env_beside c).phase ≡ calling n → n < length functions
      go (configuration e fs) typed phase = omega (arith, subst (λ p. IsPhaseTyped inst p fs) phase typed.phase, calls_count m s functions are)

-- where none runs it is entered next
pub enters_outside : (inst : Instance) (c : Configuration) (func : ℕ) (numbers : List ℤ) → (IsInside c → ⊥) → (called : Callee) × EntersWith inst (env_beside c) func numbers called → (called : Callee) × EntersNext inst c func numbers called
enters_outside inst (configuration e []) func numbers out h = h
enters_outside inst (configuration e (fr ∷ below)) func numbers out h = absurd (out tt)

-- a function that runs is not behind the end
pub inside_goes : (m : Module) (s : Script) (linked : IsLinked m s) (made : ℕ) → IsInside (run_of m s made) → is_over (run_of m s made) ≡ false
inside_goes m s linked made inside = go (run_of m s made) (always_typed m s linked.valid linked.complete linked.range.writes (can_link m s linked.links) made) inside
  where
    by_phase : (e : Env) (p : Phase) (fs : List Frame) → IsPhaseTyped (instance m s) p fs → IsInside (configuration e fs) → is_last p ≡ false
    by_phase e starting fs h inside = refl
    by_phase e (calling n) fs h inside = refl
    by_phase e over [] h inside = absurd inside
    by_phase e over (fr ∷ below) h inside = absurd cc

    go : (c : Configuration) → IsConfigurationTyped m s c → IsInside c → is_over c ≡ false
    go (configuration e fs) typed inside = by_phase e e.phase fs typed.phase inside

-- and one that is entered neither
pub entry_goes : (inst : Instance) (c : Configuration) (func : ℕ) (numbers : List ℤ) (called : Callee) → EntersNext inst c func numbers called → is_over c ≡ false
entry_goes inst (configuration e []) func numbers called h = go e.phase refl
  where
    go : (p : Phase) → e.phase ≡ p → is_last e.phase ≡ false
    go starting at = ap is_last at
    go (calling n) at = ap is_last at
    go over at = absurd (told_apart (sym (ap (told_begins inst e) at) ∙ h.told_is))
      where
        told_apart : {A : Type 0} {x : A} {xs : List A} → [] ≡ x ∷ xs → ⊥
        told_apart q = absurd cc
entry_goes inst (configuration e (fr ∷ below)) func numbers called h = absurd h

-- memory may be wanting for it
pub entry_wants : (inst : Instance) (c : Configuration) (func : ℕ) (numbers : List ℤ) (called : Callee) → EntersNext inst c func numbers called → MayWant c
entry_wants inst (configuration e []) func numbers called h = entry_goes inst (configuration e []) func numbers called h
entry_wants inst (configuration e (fr ∷ below)) func numbers called h = absurd h

-- what is there is found
pub nothing_there : {A : Type 0} (o : Option A) (b : Bool) → is_some o ≡ b → b ≡ true → ((x : A) → o ≡ Some x → ⊥) → ⊥
nothing_there None b e h none = absurd (false≢true (e ∙ h))
nothing_there (Some x) b e h none = none x refl
