-- The start, or a call of the script, is entered: a step of the run.
use Rattle.std.proofs.Common.{◌≡◌, ℕ, ◌+◌, ◌≤◌, ℤ, List, [], ◌∷◌, ◌++◌, length, Some, None, true, false, cond, refl, sym, ap, subst, ◌∙◌, arith, slice_get}
use Rattle.std.proofs.lemmas.Bool.{lt-ltb}
use Rattle.wasm_sem.specs.Types.{ValType, Value, Body, FuncType, Module}
use Rattle.module_ast.specs.Places.{height, code_nesting}
use Rattle.module_ast.specs.Structure.{Tree}
use Rattle.module_ast.specs.Validation.{declared_locals}
use Rattle.run_store.specs.Held.{Held}
use Rattle.wasm_sem.specs.declared.Answer.{Answer}
use Rattle.wasm_sem.specs.declared.Answer.TheVariants.{Returned}
use Rattle.wasm_sem.specs.declared.HostAnswer.{HostAnswer}
use Rattle.wasm_sem.specs.declared.Script.{Script}
use Rattle.wasm_sem.specs.declared.Trap.TheVariants.{Depth}
use Rattle.wasm_sem.specs.Execution.{hosts_in, hook_in, Callee, host, hook, own, callee_type, callees_of, is_hook_function, Instance, instance, Frame, Env, Phase, starting, calling, over, Configuration, configuration, reduces, traps, new_frame, env_after, invoke, after_step, run_of, Store, zeros, values_of, answer_at, writes_done, written_memory, answered_store, told_items, items}
use Rattle.wasm_sem.specs.Heights.{function_context}
use Rattle.wasm_sem.proofs.Straight.{some_is}
use Rattle.wasm_run.specs.Beside.{HasMadeHosts}
use Rattle.wasm_run.specs.Entering.{StandsAlone}
use Rattle.wasm_run.specs.Entries.{EntersWith, EntersNext}
use Rattle.run_stack.specs.Flat.{Flat}
use Rattle.wasm_run.specs.Moves.{HasSameAnswers, RunsOn, EndsWith}
use Rattle.wasm_run.specs.Rooms.{HaveRoom}
use Rattle.run_store.specs.Resolved.{IsSizeOf}
use Rattle.wasm_run.specs.Running.{KeepsConfiguration, IsRunning}
use Rattle.run_stack.specs.Standing.{KeepsStore}
use Rattle.wasm_run.proofs.Answered.{written_store}
use Rattle.wasm_run.proofs.Answering.{values_none}
use Rattle.wasm_run.proofs.Hooks.{hook_told, hook_there, no_hook}
use Rattle.wasm_run.proofs.Moments.{env_store}
use Rattle.wasm_run.proofs.Rooms.{next_state}

-- an answer is the same whatever the store
same_after : (inst : Instance) (p : Phase) (e : Env) (st : Store) (a : Answer) → HasSameAnswers (env_after inst p e a) (env_after inst p (record e { store = st }) a)
same_after inst starting e st a = record { phase = refl; started = refl; answers = refl }
same_after inst (calling n) e st a = record { phase = refl; started = refl; answers = refl }
same_after inst over e st a = record { phase = refl; started = refl; answers = refl }

module _ (m : Module) (s : Script) (made : ℕ) (f : Flat) (memory : Held) (globals : List Value) (hosts : ℕ) (running : IsRunning m s made f memory globals) (counts : HasMadeHosts m s made hosts)
    (func : ℕ) (numbers : List ℤ) where
  abbrev inst : Instance
  inst = instance m s

  -- what stands when a function is entered
  record Entrant (called : Callee) : Type 0 where
    env : Env
    at : run_of m s made ≡ configuration env []
    next : EntersWith inst env func numbers called
    bases : f.bases ≡ []
    store : KeepsStore inst env.store memory globals

  entrant : (called : Callee) → EntersNext inst (run_of m s made) func numbers called → Entrant called
  entrant called h = go (run_of m s made) refl running.keeps h
    where
      go : (c : Configuration) → run_of m s made ≡ c → KeepsConfiguration m s c f memory globals → EntersNext inst c func numbers called → Entrant called
      go (configuration e []) at keeps h = record { env = e; at = at; next = h; bases = keeps.0; store = keeps.1 }
      go (configuration e (fr ∷ below)) at keeps h = absurd h

  next_at : (called : Callee) (x : Entrant called) → run_of m s (made + 1) ≡ after_step inst (configuration x.env []) (invoke inst x.env [] func called (values_of (callee_type called).params numbers))
  next_at called x =
      let l = running.linked in
      next_state m s l.valid l.complete l.range l.links made (configuration x.env []) x.at ∙ ap (after_step inst (configuration x.env [])) x.next.next_is

  -- ---- what ends at once

  module _ (called : Callee) (x : Entrant called) (st : Store) (a : Answer)
      (comes : invoke inst x.env [] func called (values_of (callee_type called).params numbers) ≡ reduces (configuration (env_after inst x.env.phase (record x.env { store = st }) a) [])) where
    ended_at : run_of m s (made + 1) ≡ configuration (env_after inst x.env.phase (record x.env { store = st }) a) []
    ended_at = next_at called x ∙ ap (after_step inst (configuration x.env [])) comes

    ended_with : EndsWith inst a (run_of m s made) (run_of m s (made + 1))
    ended_with =
        subst (λ c. EndsWith inst a c (run_of m s (made + 1))) (sym x.at)
        (subst (EndsWith inst a (configuration x.env [])) (sym ended_at) (record { outside = λ h. h; told = same_after inst x.env.phase x.env st a }))

    ended_running : (after : Held) → KeepsStore inst st after globals → IsRunning m s (made + 1) f after globals
    ended_running after keeps = record {
      linked = running.linked;
      keeps = subst (λ c. KeepsConfiguration m s c f after globals) (sym ended_at)
          (x.bases, subst (λ st. KeepsStore inst st after globals) (sym (env_store inst x.env.phase (record x.env { store = st }) a)) keeps);
    }

    ended_hosts : hosts_in (run_of m s (made + 1)) ≡ st.hosts
    ended_hosts = ap hosts_in ended_at ∙ ap (λ (st : Store). st.hosts) (env_store inst x.env.phase (record x.env { store = st }) a)

  -- ---- a hook

  module _ (ty : FuncType) (h : EntersNext inst (run_of m s made) func numbers (hook ty)) where
    abbrev hooked : Entrant (hook ty)
    hooked = entrant (hook ty) h

    pub hook_ends : (vs : List Value) → vs ≡ values_of ty.results [] → EndsWith inst (Returned vs) (run_of m s made) (run_of m s (made + 1))
    hook_ends vs e =
        subst (λ vs. EndsWith inst (Returned vs) (run_of m s made) (run_of m s (made + 1))) (sym (e ∙ values_none ty.results))
        (ended_with (hook ty) hooked hooked.env.store (Returned (zeros ty.results)) refl)

    pub hook_running : IsRunning m s (made + 1) f memory globals
    hook_running = ended_running (hook ty) hooked hooked.env.store (Returned (zeros ty.results)) refl memory hooked.store

    pub hook_counted : HasMadeHosts m s (made + 1) hosts
    hook_counted =
        let few = counts.few in
        record {
          counted = ended_hosts (hook ty) hooked hooked.env.store (Returned (zeros ty.results)) refl ∙ sym (ap hosts_in hooked.at) ∙ counts.counted;
          few = omega (arith, few);
        }

    -- its call is told
    pub hook_entered_told : (vs : List Value) → vs ≡ values_of ty.params numbers → Some (record { «import» = func; args = vs }) ≡ hook_in (items inst (run_of m s made))
    hook_entered_told vs e =
        hook_told inst (run_of m s made) (Some (record { «import» = func; args = vs }))
        (ap hook_in (ap (told_items inst) hooked.at ∙ hooked.next.told_is) ∙ ap (λ (vs : List Value). Some (record { «import» = func; args = vs })) (sym e))
        (λ bare. absurd (no_hooks_there bare))
      where
        no_hooks_there : inst.hooked ≡ false → ⊥
        no_hooks_there bare = let one = hook_there (callees_of m) func (hook ty) hooked.next.callee refl in absurd (differ (sym bare ∙ one))
          where
            differ : false ≡ true → ⊥
            differ q = absurd cc

  -- another function tells none
  pub other_entered : (called : Callee) → EntersNext inst (run_of m s made) func numbers called → is_hook_function called ≡ false → None ≡ hook_in (items inst (run_of m s made))
  other_entered called h other =
      let x = entrant called h in
      hook_told inst (run_of m s made) None
      (ap hook_in (ap (told_items inst) x.at ∙ x.next.told_is) ∙ no_hook inst x.env func called (values_of (callee_type called).params numbers) other)
      (λ _. refl)

  -- ---- a host function

  module _ (ty : FuncType) (h : EntersNext inst (run_of m s made) func numbers (host ty)) where
    abbrev answered : Entrant (host ty)
    answered = entrant (host ty) h

    abbrev given : HostAnswer
    given = answer_at s.hosts answered.env.store.hosts

    abbrev behind : Store
    behind = answered_store given answered.env.store

    count_is : answered.env.store.hosts ≡ hosts
    count_is = sym (ap hosts_in answered.at) ∙ counts.counted

    same_given : (a : HostAnswer) → a ≡ answer_at s.hosts hosts → a ≡ given
    same_given a e = e ∙ ap (answer_at s.hosts) (sym count_is)

    pub host_ends : (a : HostAnswer) → a ≡ answer_at s.hosts hosts → (vs : List Value) → vs ≡ values_of ty.results a.results → EndsWith inst (Returned vs) (run_of m s made) (run_of m s (made + 1))
    host_ends a a_is vs e =
        subst (λ vs. EndsWith inst (Returned vs) (run_of m s made) (run_of m s (made + 1))) (sym (e ∙ ap (λ (a : HostAnswer). values_of ty.results a.results) (same_given a a_is)))
        (ended_with (host ty) answered behind (Returned (values_of ty.results given.results)) refl)

    pub host_running : (after : Held) (a : HostAnswer) → a ≡ answer_at s.hosts hosts → after.bytes ≡ written_memory (writes_done memory.bytes a.writes) memory.bytes → after.max ≡ memory.max → IsRunning m s (made + 1) f after globals
    host_running after a a_is bytes max =
        ended_running (host ty) answered behind (Returned (values_of ty.results given.results)) refl after
        (written_store m s answered.env.store memory globals answered.store after a given (same_given a a_is) bytes max)

    pub host_counted : HasMadeHosts m s (made + 1) (hosts + 1)
    host_counted =
        let few = counts.few in
        let n = ended_hosts (host ty) answered behind (Returned (values_of ty.results given.results)) refl in
        record { counted = n ∙ omega (arith, count_is); few = omega (arith, few) }

  -- ---- a function of the module

  module _ (ty : FuncType) (body : Body) (h : EntersNext inst (run_of m s made) func numbers (own ty (declared_locals body.groups) body.code)) where
    abbrev begun : Entrant (own ty (declared_locals body.groups) body.code)
    begun = entrant (own ty (declared_locals body.groups) body.code) h

    abbrev first : Frame
    first = new_frame func ty (declared_locals body.groups) body.code (values_of ty.params numbers)

    first_at : run_of m s (made + 1) ≡ configuration begun.env (first ∷ [])
    first_at =
        let deep = running.linked.range.some_depth in
        next_at (own ty (declared_locals body.groups) body.code) begun
        ∙ ap (λ b. after_step inst (configuration begun.env []) (cond b (reduces (configuration begun.env (first ∷ []))) (traps Depth))) (lt-ltb 0 inst.depth (omega (arith, deep)))

    pub first_on : RunsOn (run_of m s made) (run_of m s (made + 1))
    first_on =
        subst (λ c. RunsOn c (run_of m s (made + 1))) (sym begun.at)
        (subst (RunsOn (configuration begun.env [])) (sym first_at) (record { inside = tt; same = record { phase = refl; started = refl; answers = refl } }))

    pub first_counted : HasMadeHosts m s (made + 1) hosts
    first_counted =
        let few = counts.few in
        record { counted = ap hosts_in first_at ∙ sym (ap hosts_in begun.at) ∙ counts.counted; few = omega (arith, few) }

    module _ (high nesting : ℕ) (u : Flat) (locals : ℕ) (size : IsSizeOf m ty body locals high nesting) (alone : StandsAlone ty body numbers high nesting u) where
      FitsAlone : Callee → Type 0
      FitsAlone (own ty1 declared code) = (0 + length (ty1.params ++ declared) + height (function_context m ty1 declared) code ≤ u.value_room) × (0 + 1 + code_nesting code ≤ u.spot_room)
      FitsAlone (host ty1) = Unit {0}
      FitsAlone (hook ty1) = Unit {0}

      fits_alone : (ty1 : FuncType) (declared : List ValType) (code : Tree) → slice_get (callees_of m) func ≡ Some (own ty1 declared code) → FitsAlone (own ty1 declared code)
      unfolding FitsAlone
      fits_alone ty1 declared code at =
          subst FitsAlone (some_is (sym begun.next.callee ∙ at)) (omega (arith, alone.values_fit, size.high_is), omega (arith, alone.labels_fit, size.nesting_is))

      room_alone : HaveRoom m u.value_room u.spot_room (first ∷ [])
      unfolding FitsAlone
      room_alone = (
        record {
          values_fit = λ ty1 declared code at. (fits_alone ty1 declared code at).0;
          labels_fit = λ ty1 declared code at. (fits_alone ty1 declared code at).1;
        },
        tt,
      )

      pub first_running : IsRunning m s (made + 1) u memory globals
      first_running = record {
        linked = running.linked;
        keeps = subst (λ c. KeepsConfiguration m s c u memory globals) (sym first_at) (alone.lies func, begun.store, room_alone);
      }

  -- where there was no memory for it
  pub unentered : (called : Callee) → EntersNext inst (run_of m s made) func numbers called → (u : Flat) → u.bases ≡ [] → IsRunning m s made u memory globals
  unentered called h u unframed =
      let x = entrant called h in
      record { linked = running.linked; keeps = subst (λ c. KeepsConfiguration m s c u memory globals) (sym x.at) (unframed, x.store) }
