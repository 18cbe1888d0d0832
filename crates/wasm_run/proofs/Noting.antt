-- What a step adds to the entries and the host calls of a trace, and the note of it.
use Rattle.std.proofs.Common.{◌≡◌, ℕ, suc, ℤ, List, length, [], ◌∷◌, ◌++◌, Option, Some, None, Bool, true, false, refl, sym, ap, ap₂, ◌∙◌}
use Rattle.std.specs.Borrow.{Bor}
use Rattle.wasm_sem.specs.Types.{Value, FuncType, Module, Event, GroupName}
use Rattle.module_ast.specs.Lists.{when}
use Rattle.module_ast.specs.Places.{function_scope}
use Rattle.module_ast.specs.Structure.{is_start, Tree}
use Rattle.hook_select.specs.Events.{group_of}
use Rattle.run_store.specs.Held.{Held}
use Rattle.wasm_sem.specs.declared.HostAnswer.{HostAnswer}
use Rattle.wasm_sem.specs.declared.Script.{Script}
use Rattle.wasm_sem.specs.Execution.{hosts_in, TraceItem, entry, event, host_call, host_item, Callee, host, callee_type, Instance, instance, Frame, Env, Configuration, configuration, Next, run_of, values_of, answer_at, writes_done, told_invoke, told_items, items_by, items, has_group}
use Rattle.wasm_sem.specs.Rules.{next_answer, answered_values}
use Rattle.wasm_sem.proofs.Rules.{AreEvents, no_more, an_event, only_quiet, quiet_events, post_events, jump_events, begin_events, Invokes, begins, too_deep, replies, hears, StepRule, computes, halts, jumps, stays, calls, misses, opens, skips, falls, finishes, enters, rests, lacks, rule_of}
use Rattle.wasm_run.specs.declared.note.Entry.{Entry}
use Rattle.wasm_run.specs.declared.note.HostNote.{HostNote}
use Rattle.run_store.specs.declared.functions.Function.{Function}
use Rattle.run_store.specs.declared.functions.Function.TheVariants as functions
use Rattle.run_store.specs.Resolved.{callee_for}
use Rattle.wasm_run.specs.declared.functions.Invocation.{Invocation}
use Rattle.wasm_run.specs.declared.functions.Target.{Target}
use Rattle.wasm_run.specs.declared.functions.Target.TheVariants as targets
use Rattle.wasm_run.specs.Beside.{HasMadeHosts}
use Rattle.run_stack.specs.Below.{IsBelow}
use Rattle.wasm_run.specs.Entries.{EntersNext}
use Rattle.run_stack.specs.Flat.{Flat}
use Rattle.wasm_run.specs.Moves.{env_beside}
use Rattle.wasm_run.specs.Noting.{host_items, noted_items, outside_items, last_outside, next_outside}
use Rattle.run_stack.specs.Slots.{index_count}
use Rattle.wasm_run.specs.Reaching.{Reaches, IsTarget}
use Rattle.wasm_run.specs.Running.{Run, configuration_of, KeepsConfiguration, IsRunning}
use Rattle.wasm_run.proofs.Hooks.{nothing_told, told_with}

-- ---- what is shown and what is told have the same entries and host calls

no_group : (o : Option GroupName) → has_group (λ g. false) o ≡ false
no_group None = refl
no_group (Some g) = refl

event_out : (e : Event) (is : List TraceItem) → outside_items (event e ∷ is) ≡ outside_items is
event_out e is = ap (λ b. when b (event e ∷ []) ++ outside_items is) (no_group (group_of e))

none_outside : {is : List TraceItem} → AreEvents is → outside_items is ≡ []
none_outside no_more = refl
none_outside (an_event e {is = is} h more) = event_out e is ∙ none_outside more

invoke_outside : {inst : Instance} {e : Env} {below : List Frame} {f : ℕ} {args : List Value} {c : Callee} {is ts : List TraceItem} {next : Next} → Invokes inst e below f args c is ts next → outside_items is ≡ outside_items ts
invoke_outside {inst = inst} {f = f} (begins ty locals code h) = none_outside (begin_events (is_start inst.start f) f (function_scope code))
invoke_outside (too_deep ty locals code deep) = refl
invoke_outside {inst = inst} {e = e} {below = below} {f = f} {args = args} (replies ty) = ap (λ (js : List TraceItem). host_item e f ty (next_answer inst e) args ∷ js) (none_outside (post_events below (answered_values inst e ty)))
invoke_outside (hears ty) = refl

rule_outside : {inst : Instance} {c : Configuration} {is ts : List TraceItem} {next : Next} → StepRule inst c is ts next → outside_items is ≡ outside_items ts
rule_outside (computes e fr below i k o new l left si sr q same) = none_outside (only_quiet q)
rule_outside (halts e fr below i k o t si sr q) = none_outside (only_quiet q)
rule_outside (jumps e fr below i k o n left b q j) = none_outside (quiet_events q (jump_events j))
rule_outside (stays e fr below n k o) = refl
rule_outside (calls e fr below i k o f c args left ev {is = is} h q j) = event_out ev is ∙ invoke_outside j
rule_outside (misses e fr below x i k o ty f p t tx h sl) = refl
rule_outside (opens e fr below whole o s cont ty inside body outside k left p h q e1) = none_outside (quiet_events q (an_event _ refl no_more))
rule_outside (skips e fr below bt body k o) = refl
rule_outside (falls e fr below o l ls) = refl
rule_outside (finishes e fr below o p h) = none_outside (post_events below p.0)
rule_outside (enters e c callee h at j) = ap (λ (js : List TraceItem). entry c ∷ js) (invoke_outside j)
rule_outside (rests e h) = refl
rule_outside (lacks c h) = none_outside h

outside_told : (inst : Instance) (c : Configuration) → outside_items (items inst c) ≡ outside_items (told_items inst c)
outside_told inst c = go inst.hooked
  where
    go : (b : Bool) → outside_items (items_by b inst c) ≡ outside_items (told_items inst c)
    go true = refl
    go false = rule_outside (rule_of inst c)

-- ---- a step that enters nothing and calls no host

-- a function that is no host function
invoked_outside : (inst : Instance) (e : Env) (func : ℕ) (args : List Value) (f : Function) → ((ty : Bor FuncType) → f ≡ functions.Host ty → ⊥) → outside_items (told_invoke inst e func (callee_for f) args) ≡ []
invoked_outside inst e func args (functions.Host ty) other = absurd (other ty refl)
invoked_outside inst e func args (functions.Hook ty) other = refl
invoked_outside inst e func args (functions.Own ty body size) other = refl

pub none_called : (r : Run) (t : Target) → IsTarget t r → ((i : Invocation) → t ≡ targets.Invokes i → ⊥) → next_outside r ≡ []
none_called r targets.NoCall h other =
    let inst = instance r.module r.script in
    outside_told inst (configuration_of r) ∙ ap outside_items (nothing_told inst (configuration_of r) h)
none_called r (targets.Traps t) h other = outside_told (instance r.module r.script) (configuration_of r) ∙ ap outside_items h.1
none_called r (targets.Invokes i) h other = absurd (other i refl)

-- ---- the note

module _ (m : Module) (s : Script) (made : ℕ) where
  abbrev inst : Instance
  inst = instance m s

  module _ (f : Flat) (memory : Held) (globals : List Value) (hosts : ℕ) (running : IsRunning m s made f memory globals) (counts : HasMadeHosts m s made hosts) where
    abbrev before : Env
    before = env_beside (run_of m s made)

    kept_memory : (c : Configuration) → KeepsConfiguration m s c f memory globals → memory.bytes ≡ (env_beside c).store.memory
    kept_memory (configuration e []) keeps = ap (λ (h : Held). h.bytes) keeps.1.memory_is
    kept_memory (configuration e (fr ∷ below)) keeps = ap (λ (h : Held). h.bytes) keeps.1.memory_is

    kept_hosts : (c : Configuration) → hosts_in c ≡ (env_beside c).store.hosts
    kept_hosts (configuration e fs) = refl

    -- a host call, by the script's next answer
    item_is : (func : ℕ) (args : List Value) (ty : FuncType) (a : HostAnswer) → a ≡ answer_at s.hosts hosts
        → host_call func args (values_of ty.results a.results) (writes_done memory.bytes a.writes) ≡ host_item before func ty (answer_at s.hosts before.store.hosts) args
    item_is func args ty a given =
        let same : a ≡ answer_at s.hosts before.store.hosts = given ∙ ap (answer_at s.hosts) (sym counts.counted ∙ kept_hosts (run_of m s made)) in
        ap₂ (λ (a : HostAnswer) (bytes : List ℕ). host_call func args (values_of ty.results a.results) (writes_done bytes a.writes)) same (kept_memory (run_of m s made) running.keeps)

    -- ---- the start, or a call of the script, is entered

    module _ (func : ℕ) (numbers : List ℤ) (c : Entry) where
      entered_told : (called : Callee) (at : Configuration) → EntersNext inst at func numbers called
          → told_items inst at ≡ entry (record { func = func; args = values_of (callee_type called).params numbers }) ∷ told_invoke inst (env_beside at) func called (values_of (callee_type called).params numbers)
      entered_told called (configuration e []) next = next.told_is
      entered_told called (configuration e (fr ∷ below)) next = absurd next

      pub other_noted : (g : Function) → ((ty : Bor FuncType) → g ≡ functions.Host ty → ⊥) → EntersNext inst (run_of m s made) func numbers (callee_for g)
          → c ≡ record { func = func; args = values_of (callee_type (callee_for g)).params numbers }
          → noted_items (record { entered = Some c; host = None }) ≡ last_outside m s (suc made)
      other_noted g other next is =
          let args = values_of (callee_type (callee_for g)).params numbers in
          ap (λ (c : Entry). noted_items (record { entered = Some c; host = None })) is
          ∙ ap (λ (is : List TraceItem). entry (record { func = func; args = args }) ∷ is) (sym (invoked_outside inst (env_beside (run_of m s made)) func args g other))
          ∙ sym (outside_told inst (run_of m s made) ∙ ap outside_items (entered_told (callee_for g) (run_of m s made) next))

      pub host_noted : (ty : FuncType) → EntersNext inst (run_of m s made) func numbers (host ty) → c ≡ record { func = func; args = values_of ty.params numbers }
          → (args : List Value) → args ≡ values_of ty.params numbers → (a : HostAnswer) → a ≡ answer_at s.hosts hosts
          → (n : HostNote) → host_items (Some n) ≡ host_call func args (values_of ty.results a.results) (writes_done memory.bytes a.writes) ∷ []
          → noted_items (record { entered = Some c; host = Some n }) ≡ last_outside m s (suc made)
      host_noted ty next is args args_is a given n n_is =
          ap₂ (λ (c : Entry) (is : List TraceItem). entry (record { func = c.func; args = c.args }) ∷ is) is
          (n_is ∙ ap (λ (vs : List Value). host_call func vs (values_of ty.results a.results) (writes_done memory.bytes a.writes) ∷ []) args_is
          ∙ ap (λ (i : TraceItem). i ∷ []) (item_is func (values_of ty.params numbers) ty a given))
          ∙ sym (outside_told inst (run_of m s made) ∙ ap outside_items (entered_told (host ty) (run_of m s made) next))

    -- ---- an instruction calls a host function

    pub called_note : (slot : Option ℕ) (func : ℕ) (k : Tree) (ty : FuncType) → Reaches inst (run_of m s made) slot func k (host ty)
        → (above : ℕ) → above ≡ index_count slot → (args : List Value) → IsBelow above (length ty.params) args f.values → (a : HostAnswer) → a ≡ answer_at s.hosts hosts
        → (n : HostNote) → host_items (Some n) ≡ host_call func args (values_of ty.results a.results) (writes_done memory.bytes a.writes) ∷ []
        → host_items (Some n) ≡ last_outside m s (suc made)
    called_note slot func k ty reaches above above_is args below a given n n_is =
        n_is ∙ ap (λ (i : TraceItem). i ∷ []) (item_is func args ty a given)
        ∙ sym (ap outside_items (told_with m s made f memory globals running slot func k (host ty) reaches above args above_is below)) ∙ sym (outside_told inst (run_of m s made))
