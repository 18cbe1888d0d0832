-- The store counts the calls of the host. A run makes as many as its trace has, and a step one at most.
use Rattle.std.proofs.Common.{◌≡◌, ℕ, zero, suc, ◌+◌, ◌≤◌, List, [], ◌∷◌, ◌++◌, map, Bool, true, false, refl, sym, ap, subst, ◌∙◌, arith, add-one}
use Rattle.wasm_sem.specs.Types.{Value, Event, Module}
use Rattle.module_ast.specs.Places.{function_scope}
use Rattle.wasm_sem.specs.declared.Answer.{Answer}
use Rattle.wasm_sem.specs.declared.Answer.TheVariants.{Returned, Trapped}
use Rattle.wasm_sem.specs.declared.Script.{Script}
use Rattle.wasm_sem.specs.Execution.{hosts_in, TraceItem, entry, host_call, event, hook_call, host_calls, shown_items, Callee, Instance, instance, Label, Frame, Phase, starting, calling, over, Env, Configuration, configuration, Next, reduces, traps, ends, stuck, env_after, return_to, step, after_step, opening_configuration, run, run_of, told_items, items_by, items, trace, trace_of}
use Rattle.wasm_sem.specs.Laws.{HostCallsAreCounted}
use Rattle.wasm_sem.proofs.Runs.{run_add}
use Rattle.wasm_sem.proofs.Rules.{answered_env, AreEvents, no_more, an_event, Invokes, begins, too_deep, replies, hears, Jumps, lands, leaves, crosses, unfed, unheld, StepRule, computes, halts, jumps, stays, calls, misses, opens, skips, falls, finishes, enters, rests, lacks, begin_events, post_events, jump_events, only_quiet, quiet_events, rule_of}

pub calls-append : (is js : List TraceItem) → host_calls (is ++ js) ≡ host_calls is + host_calls js
calls-append [] js = omega arith
calls-append (entry c ∷ is) js = calls-append is js
calls-append (host_call f vs rs ws ∷ is) js = omega (arith, calls-append is js)
calls-append (event e ∷ is) js = calls-append is js
calls-append (hook_call h ∷ is) js = calls-append is js

-- events are none
events_none : {is : List TraceItem} → AreEvents is → host_calls is ≡ 0
events_none no_more = refl
events_none (an_event e h more) = events_none more

pub mapped_none : (es : List Event) → host_calls (map event es) ≡ 0
mapped_none [] = refl
mapped_none (e ∷ es) = mapped_none es

-- ---- a step

-- what a step comes to has so many host calls more
abbrev Made : (hosts more : ℕ) → Next → Type 0
Made hosts more (reduces (configuration e frames)) = e.store.hosts ≡ hosts + more
Made hosts more _ = more ≡ 0

-- what is shown and told has as many, which are one at most
record Counts (hosts : ℕ) (shown told : List TraceItem) (next : Next) : Type 0 where
  same : host_calls shown ≡ host_calls told
  few : host_calls told ≤ 1
  made : Made hosts (host_calls told) next

answer_made : (inst : Instance) (ph : Phase) (e : Env) (a : Answer) → (env_after inst ph e a).store.hosts ≡ e.store.hosts
answer_made inst starting e a = refl
answer_made inst (calling n) e a = refl
answer_made inst over e a = refl

return_made : (inst : Instance) (e : Env) (below : List Frame) (vs : List Value) (hosts more : ℕ) → e.store.hosts ≡ hosts + more → Made hosts more (return_to inst e below vs)
return_made inst e [] vs hosts more h = answer_made inst e.phase e (Returned vs) ∙ h
return_made inst e (fr ∷ below) vs hosts more h = h

no_more_hosts : (n : ℕ) → n ≡ n + 0
no_more_hosts n = omega arith

jump_made : (inst : Instance) (e : Env) (fr : Frame) (below : List Frame) (o : List Value) {n : ℕ} {t : Label} {outer : List Label} {is : List TraceItem} {next : Next} → Jumps inst e fr below o n t outer is next → Made e.store.hosts 0 next
jump_made inst e fr below o (lands t l ls p h) = no_more_hosts e.store.hosts
jump_made inst e fr below o (leaves t p h) = return_made inst e below p.0 e.store.hosts 0 (no_more_hosts e.store.hosts)
jump_made inst e fr below o (crosses t j) = jump_made inst e fr below o j
jump_made inst e fr below o (unfed t outer) = refl
jump_made inst e fr below o (unheld t) = refl

-- events alone are shown, and nothing is told
quiet_counts : (hosts : ℕ) (is : List TraceItem) (next : Next) → AreEvents is → Made hosts 0 next → Counts hosts is [] next
quiet_counts hosts is next events made = record { same = events_none events; few = omega arith; made = made }

invoke_counts : (inst : Instance) (e : Env) (below : List Frame) (f : ℕ) (args : List Value) {c : Callee} {is ts : List TraceItem} {next : Next} → Invokes inst e below f args c is ts next → Counts e.store.hosts is ts next
invoke_counts inst e below f args (begins ty locals code h) = quiet_counts e.store.hosts _ _ (begin_events _ f (function_scope code)) (no_more_hosts e.store.hosts)
invoke_counts inst e below f args (too_deep ty locals code deep) = quiet_counts e.store.hosts [] _ no_more refl
invoke_counts inst e below f args (replies ty) = record {
  same = ap suc (events_none (post_events below _));
  few = omega arith;
  made = return_made inst (answered_env inst e) below _ e.store.hosts 1 (sym (add-one e.store.hosts));
}
invoke_counts inst e below f args (hears ty) = record { same = refl; few = omega arith; made = return_made inst e below _ e.store.hosts 0 (no_more_hosts e.store.hosts) }

-- beside the frames of a configuration
abbrev Counted : Configuration → (shown told : List TraceItem) → Next → Type 0
Counted (configuration e frames) shown told next = Counts e.store.hosts shown told next

rule_counts : (inst : Instance) {c : Configuration} {is ts : List TraceItem} {next : Next} → StepRule inst c is ts next → Counted c is ts next
rule_counts inst (computes e fr below i k o new l left si sr q same) = quiet_counts e.store.hosts _ _ (only_quiet q) (same.hosts ∙ no_more_hosts e.store.hosts)
rule_counts inst (halts e fr below i k o t si sr q) = quiet_counts e.store.hosts _ _ (only_quiet q) refl
rule_counts inst (jumps e fr below i k o n left b q j) = quiet_counts e.store.hosts _ _ (quiet_events q (jump_events j)) (jump_made inst e _ below left j)
rule_counts inst (stays e fr below n k o) = quiet_counts e.store.hosts _ _ (an_event _ refl no_more) (no_more_hosts e.store.hosts)
rule_counts inst (calls e fr below i k o f c args left ev h q j) =
    let counts = invoke_counts inst e _ f args j in
    record { same = counts.same; few = counts.few; made = counts.made }
rule_counts inst (misses e fr below x i k o ty f p t tx h sl) = quiet_counts e.store.hosts _ _ (an_event _ refl no_more) refl
rule_counts inst (opens e fr below whole o s cont ty inside body outside k left p h q e1) = quiet_counts e.store.hosts _ _ (quiet_events q (an_event _ refl no_more)) (no_more_hosts e.store.hosts)
rule_counts inst (skips e fr below bt body k o) = quiet_counts e.store.hosts _ _ (an_event _ refl no_more) (no_more_hosts e.store.hosts)
rule_counts inst (falls e fr below o l ls) = quiet_counts e.store.hosts _ _ (an_event _ refl no_more) (no_more_hosts e.store.hosts)
rule_counts inst (finishes e fr below o p h) =
    quiet_counts e.store.hosts _ _ (an_event _ refl (an_event _ refl (post_events below p.0))) (return_made inst e below p.0 e.store.hosts 0 (no_more_hosts e.store.hosts))
rule_counts inst (enters e c callee h at j) =
    let counts = invoke_counts inst e [] c.func c.args j in
    record { same = counts.same; few = counts.few; made = counts.made }
rule_counts inst (rests e h) = quiet_counts e.store.hosts _ _ no_more refl
rule_counts inst (lacks (configuration e frames) h) = quiet_counts e.store.hosts _ _ h refl

settled : (inst : Instance) (e : Env) (frames : List Frame) (more : ℕ) (next : Next) → Made e.store.hosts more next → hosts_in (after_step inst (configuration e frames) next) ≡ e.store.hosts + more
settled inst e frames more (reduces (configuration b below)) h = h
settled inst e frames more (traps t) h = answer_made inst e.phase e (Trapped t) ∙ (omega (arith, h))
settled inst e frames more ends h = omega (arith, h)
settled inst e frames more stuck h = omega (arith, h)

-- one step makes the host calls of its items, one at most
record Steps (inst : Instance) (c : Configuration) : Type 0 where
  made : hosts_in (after_step inst c (step inst c)) ≡ hosts_in c + host_calls (items inst c)
  few : host_calls (items inst c) ≤ 1

step_counts : (inst : Instance) (c : Configuration) → Steps inst c
step_counts inst (configuration e frames) = by inst.hooked
  where
    counts : Counts e.store.hosts (shown_items inst (configuration e frames)) (told_items inst (configuration e frames)) (step inst (configuration e frames))
    counts = rule_counts inst (rule_of inst (configuration e frames))

    by_told : hosts_in (after_step inst (configuration e frames) (step inst (configuration e frames))) ≡ e.store.hosts + host_calls (told_items inst (configuration e frames))
    by_told = settled inst e frames (host_calls (told_items inst (configuration e frames))) (step inst (configuration e frames)) counts.made

    here : (hooked : Bool) → host_calls (items_by hooked inst (configuration e frames)) ≡ host_calls (told_items inst (configuration e frames))
    here true = refl
    here false = counts.same

    by : (hooked : Bool) → Steps inst (configuration e frames)
    by hooked = record {
      made = by_told ∙ ap (λ n. e.store.hosts + n) (sym (here inst.hooked));
      few = subst (λ n. n ≤ 1) (sym (here inst.hooked)) counts.few;
    }

-- ---- a run

-- each step makes those of its items
pub next_counts : (inst : Instance) (n : ℕ) (c : Configuration) → hosts_in (run inst (suc n) c) ≡ hosts_in (run inst n c) + host_calls (items inst (run inst n c))
next_counts inst n c =
    let one : n + 1 ≡ suc n = omega arith in
    ap hosts_in (ap (λ k. run inst k c) (sym one) ∙ run_add inst n 1 c) ∙ (step_counts inst (run inst n c)).made

-- a run makes those of its trace
run_counts : (inst : Instance) (n : ℕ) (c : Configuration) → hosts_in (run inst n c) ≡ hosts_in c + host_calls (trace inst n c)
run_counts inst zero c = no_more_hosts (hosts_in c)
run_counts inst (suc n) c =
    let next = after_step inst c (step inst c) in
    let later = run_counts inst n next in
    omega (arith, later, (step_counts inst c).made, calls-append (items inst c) (trace inst n next))

opened_none : (m : Module) (s : Script) → hosts_in (opening_configuration m s) ≡ 0
opened_none m s = refl

pub hosts_counted : HostCallsAreCounted
hosts_counted m s n = (omega (arith, run_counts (instance m s) n (opening_configuration m s), opened_none m s), (step_counts (instance m s) (run_of m s n)).few)
