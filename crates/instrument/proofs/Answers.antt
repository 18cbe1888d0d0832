-- A step reads the answers of the script only if it calls the host, and what the host finds does not depend on them.
use Rattle.std.proofs.Common.{◌≡◌, ◌≢◌, ◌⊎◌, inl, inr, ℕ, ◌≤◌, List, [], ◌∷◌, Bool, true, false, cond, refl, sym, ap, ap₂, subst, ◌∙◌, arith}
use Rattle.wasm_sem.specs.Types.{Value}
use Rattle.module_ast.specs.Places.{function_scope}
use Rattle.module_ast.specs.Structure.{Plain, is_start}
use Rattle.wasm_sem.specs.declared.HostAnswer.{HostAnswer}
use Rattle.wasm_sem.specs.declared.Answer.{Answer}
use Rattle.wasm_sem.specs.declared.Answer.TheVariants.{Returned, Trapped, Unfinished}
use Rattle.wasm_sem.specs.declared.Trap.{Trap}
use Rattle.wasm_sem.specs.Rules.{next_answer}
use Rattle.wasm_sem.specs.Execution.{Store, answered_store, values_of, Callee, Instance, Label, Frame, Phase, starting, calling, over, Env, Configuration, configuration, Next, reduces, traps, ends, stuck, env_after, return_to, step, after_step, TraceItem, entry, event, hook_call, host_item, host_calls, shown_post, shown_items, told_items, items_by, items}
use Rattle.wasm_sem.proofs.Rules.{answered_env, answered_values, AreEvents, no_more, an_event, Invokes, begins, too_deep, replies, hears, Jumps, lands, leaves, crosses, unfed, unheld, Calls, by_index, by_slot, Misses, no_slot, empty_slot, wrong_type, next_entry, StepRule, computes, halts, jumps, stays, calls, misses, opens, skips, falls, finishes, enters, rests, lacks, begin_events, post_events, jump_events, only_quiet, quiet_events, rule_of}
use Rattle.wasm_sem.proofs.RuleIs.{rule_is}
use Rattle.wasm_sem.specs.Types.{FuncType, Event}
use Rattle.wasm_sem.specs.Execution.{Entry}
use Rattle.instrument.specs.Hosts.{Sight, sight, sights_in}

-- ---- what is found

-- events are no calls
unseen : {is : List TraceItem} → AreEvents is → (st : Store) → sights_in st is ≡ []
unseen no_more st = refl
unseen (an_event e h more) st = unseen more st

-- of what is shown and told, the one that is in the trace
abbrev picked : (hooked : Bool) → (shown told : List TraceItem) → List TraceItem
picked hooked shown told = cond hooked told shown

picked_unseen : {is : List TraceItem} → AreEvents is → (hooked : Bool) (st : Store) → sights_in st (picked hooked is []) ≡ []
picked_unseen h true st = refl
picked_unseen h false st = unseen h st

items_are : (hooked : Bool) (inst : Instance) (c : Configuration) → items_by hooked inst c ≡ picked hooked (shown_items inst c) (told_items inst c)
items_are true inst c = refl
items_are false inst c = refl

is_stuck : (n : Next) → (n ≡ stuck) ⊎ (n ≢ stuck)
is_stuck (reduces c) = inr (λ e. cc)
is_stuck (traps t) = inr (λ e. cc)
is_stuck ends = inr (λ e. cc)
is_stuck stuck = inl refl

return_goes : (inst : Instance) (e : Env) (below : List Frame) (vs : List Value) → return_to inst e below vs ≢ stuck
return_goes inst e [] vs h = cc
return_goes inst e (fr ∷ below) vs h = cc

-- ---- with other answers

module _ (inst : Instance) (hs : List HostAnswer) where
  abbrev other : Instance
  other = record inst { hosts = hs }

  -- the next answer is the same
  abbrev pub SameAnswer : Configuration → Type 0
  SameAnswer (configuration e fs) = next_answer other e ≡ next_answer inst e

  after_alike : (ph : Phase) (e : Env) (a : Answer) → env_after other ph e a ≡ env_after inst ph e a
  after_alike starting e (Returned vs) = refl
  after_alike starting e (Trapped t) = refl
  after_alike starting e Unfinished = refl
  after_alike (calling n) e a = refl
  after_alike over e a = refl

  return_alike : (e : Env) (below : List Frame) (vs : List Value) → return_to other e below vs ≡ return_to inst e below vs
  return_alike e [] vs = ap (λ x. reduces (configuration x [])) (after_alike e.phase e (Returned vs))
  return_alike e (fr ∷ below) vs = refl

  settled_alike : (e : Env) (fs : List Frame) (n : Next) → after_step other (configuration e fs) n ≡ after_step inst (configuration e fs) n
  settled_alike e fs (reduces c) = refl
  settled_alike e fs (traps t) = ap (λ x. configuration x []) (after_alike e.phase e (Trapped t))
  settled_alike e fs ends = refl
  settled_alike e fs stuck = refl

  -- with the other answers too something is shown, told, and done; the same is found, and the same is done if the answer
  -- is the same
  record Comes (c : Configuration) (is ts shown told : List TraceItem) (next to : Next) : Type 0 where
    sees : (hooked : Bool) (st : Store) → sights_in st (picked hooked shown told) ≡ sights_in st (picked hooked is ts)
    goes : (hooked : Bool) → (1 ≤ host_calls (picked hooked is ts) → SameAnswer c) → to ≡ next
    some : next ≢ stuck → to ≢ stuck

  comes_still : (c : Configuration) (is ts : List TraceItem) (next : Next) → Comes c is ts is ts next next
  comes_still c is ts next = record { sees = λ hooked st. refl; goes = λ hooked h. refl; some = λ h. h }

  -- ---- calls

  record MovesCall (e : Env) (fs below : List Frame) (f : ℕ) (args : List Value) (callee : Callee) (is ts : List TraceItem) (next : Next) : Type 0 where
    shown : List TraceItem
    told : List TraceItem
    to : Next
    rule : Invokes other e below f args callee shown told to
    comes : Comes (configuration e fs) is ts shown told next to

  invoke_moves : (e : Env) (fs below : List Frame) (f : ℕ) (args : List Value) {callee : Callee} {is ts : List TraceItem} {next : Next}
      → Invokes inst e below f args callee is ts next → MovesCall e fs below f args callee is ts next
  invoke_moves e fs below f args (begins ty locals code h) = record { shown = _; told = _; to = _; rule = begins ty locals code h; comes = comes_still _ _ _ _ }
  invoke_moves e fs below f args (too_deep ty locals code h) = record { shown = _; told = _; to = _; rule = too_deep ty locals code h; comes = comes_still _ _ _ _ }
  invoke_moves e fs below f args (hears ty) = record {
    shown = [];
    told = hook_call (record { «import» = f; args = args }) ∷ [];
    to = _;
    rule = hears ty;
    comes = record { sees = λ hooked st. refl; goes = λ hooked h. return_alike e below _; some = λ h. return_goes other e below _ };
  }
  invoke_moves e fs below f args (replies ty) = record {
    shown = host_item e f ty (next_answer other e) args ∷ shown_post below (answered_values other e ty);
    told = host_item e f ty (next_answer other e) args ∷ [];
    to = return_to other (answered_env other e) below (answered_values other e ty);
    rule = replies ty;
    comes = record { sees = sees; goes = goes; some = λ h. return_goes other (answered_env other e) below _ };
  }
    where
      sees : (hooked : Bool) (st : Store)
          → sights_in st (picked hooked (host_item e f ty (next_answer other e) args ∷ shown_post below (answered_values other e ty)) (host_item e f ty (next_answer other e) args ∷ []))
          ≡ sights_in st (picked hooked (host_item e f ty (next_answer inst e) args ∷ shown_post below (answered_values inst e ty)) (host_item e f ty (next_answer inst e) args ∷ []))
      sees true st = refl
      sees false st = ap (λ (ss : List Sight). sight st f args ∷ ss) (unseen (post_events below (answered_values other e ty)) st ∙ sym (unseen (post_events below (answered_values inst e ty)) st))

      same : next_answer other e ≡ next_answer inst e
          → return_to other (answered_env other e) below (answered_values other e ty) ≡ return_to inst (answered_env inst e) below (answered_values inst e ty)
      same h =
          ap (λ (a : HostAnswer). return_to other (record e { store = answered_store a e.store }) below (values_of ty.results a.results)) h
          ∙ return_alike (answered_env inst e) below (answered_values inst e ty)

      goes : (hooked : Bool) → (1 ≤ host_calls (picked hooked (host_item e f ty (next_answer inst e) args ∷ shown_post below (answered_values inst e ty)) (host_item e f ty (next_answer inst e) args ∷ [])) → next_answer other e ≡ next_answer inst e)
          → return_to other (answered_env other e) below (answered_values other e ty) ≡ return_to inst (answered_env inst e) below (answered_values inst e ty)
      goes true h = same (h (omega arith))
      goes false h = same (h (omega arith))

  -- ---- rules

  jump_moves : (e : Env) (fr : Frame) (below : List Frame) (o : List Value) {n : ℕ} {t : Label} {outer : List Label} {is : List TraceItem} {next : Next} → Jumps inst e fr below o n t outer is next → Jumps other e fr below o n t outer is next
  jump_moves e fr below o (lands t l ls p h) = lands t l ls p h
  jump_moves e fr below o (leaves t p h) = subst (Jumps other e fr below o _ t _ _) (return_alike e below p.0) (leaves t p h)
  jump_moves e fr below o (crosses t j) = crosses t (jump_moves e fr below o j)
  jump_moves e fr below o (unfed t outer) = unfed t outer
  jump_moves e fr below o (unheld t) = unheld t

  calls_alike : (e : Env) (fr : Frame) {i : Plain} {o : List Value} {f : ℕ} {c : Callee} {args left : List Value} {ev : Event} → Calls inst e fr i o f c args left ev → Calls other e fr i o f c args left ev
  calls_alike e fr (by_index f c o p at pops) = by_index f c o p at pops
  calls_alike e fr (by_slot x i f ty c o p tx pops sl at same) = by_slot x i f ty c o p tx pops sl at same

  misses_alike : (e : Env) {i : ℕ} {ty : FuncType} {f : _} {t : Trap} → Misses inst e i ty f t → Misses other e i ty f t
  misses_alike e (no_slot h) = no_slot h
  misses_alike e (empty_slot h) = empty_slot h
  misses_alike e (wrong_type f c sl at same) = wrong_type f c sl at same

  entry_alike : (ph : Phase) → next_entry other ph ≡ next_entry inst ph
  entry_alike starting = refl
  entry_alike (calling n) = refl
  entry_alike over = refl

  record Moves (c : Configuration) (is ts : List TraceItem) (next : Next) : Type 0 where
    shown : List TraceItem
    told : List TraceItem
    to : Next
    rule : StepRule other c shown told to
    comes : Comes c is ts shown told next to

  still : {c : Configuration} {is ts : List TraceItem} {next : Next} → StepRule other c is ts next → Moves c is ts next
  still rule = record { shown = _; told = _; to = _; rule = rule; comes = comes_still _ _ _ _ }

  -- an event in front of what is shown
  comes_called : (c : Configuration) (ev : Event) (is ts shown told : List TraceItem) (next to : Next) → Comes c is ts shown told next to → Comes c (event ev ∷ is) ts (event ev ∷ shown) told next to
  comes_called c ev is ts shown told next to x = record { sees = sees; goes = goes; some = x.some }
    where
      sees : (hooked : Bool) (st : Store) → sights_in st (picked hooked (event ev ∷ shown) told) ≡ sights_in st (picked hooked (event ev ∷ is) ts)
      sees true st = x.sees true st
      sees false st = x.sees false st

      goes : (hooked : Bool) → (1 ≤ host_calls (picked hooked (event ev ∷ is) ts) → SameAnswer c) → to ≡ next
      goes true h = x.goes true h
      goes false h = x.goes false h

  -- an entry in front of both
  comes_entered : (c : Configuration) (en : Entry) (is ts shown told : List TraceItem) (next to : Next) → Comes c is ts shown told next to → Comes c (entry en ∷ is) (entry en ∷ ts) (entry en ∷ shown) (entry en ∷ told) next to
  comes_entered c en is ts shown told next to x = record { sees = sees; goes = goes; some = x.some }
    where
      sees : (hooked : Bool) (st : Store) → sights_in st (picked hooked (entry en ∷ shown) (entry en ∷ told)) ≡ sights_in st (picked hooked (entry en ∷ is) (entry en ∷ ts))
      sees true st = x.sees true st
      sees false st = x.sees false st

      goes : (hooked : Bool) → (1 ≤ host_calls (picked hooked (entry en ∷ is) (entry en ∷ ts)) → SameAnswer c) → to ≡ next
      goes true h = x.goes true h
      goes false h = x.goes false h

  rule_moves : {c : Configuration} {is ts : List TraceItem} {next : Next} → StepRule inst c is ts next → Moves c is ts next
  rule_moves (computes e fr below i k o new l left si sr q same) = still (computes e fr below i k o new l left si sr q same)
  rule_moves (halts e fr below i k o t si sr q) = still (halts e fr below i k o t si sr q)
  rule_moves (jumps e fr below i k o n left b q j) = still (jumps e fr below i k o n left b q (jump_moves e _ below left j))
  rule_moves (stays e fr below n k o) = still (stays e fr below n k o)
  rule_moves (calls e fr below i k o f c args left ev h q j) =
      let x = invoke_moves e _ _ f args j in
      record { shown = event ev ∷ x.shown; told = x.told; to = x.to; rule = calls e fr below i k o f c args left ev (calls_alike e _ h) q x.rule; comes = comes_called _ ev _ _ _ _ _ _ x.comes }
  rule_moves (misses e fr below x i k o ty f p t tx h sl) = still (misses e fr below x i k o ty f p t tx h (misses_alike e sl))
  rule_moves (opens e fr below whole o s cont ty inside body outside k left p h q e1) = still (opens e fr below whole o s cont ty inside body outside k left p h q e1)
  rule_moves (skips e fr below bt body k o) = still (skips e fr below bt body k o)
  rule_moves (falls e fr below o l ls) = still (falls e fr below o l ls)
  rule_moves (finishes e fr below o p h) = still (subst (StepRule other _ _ _) (return_alike e below p.0) (finishes e fr below o p h))
  rule_moves (enters e c callee h at j) =
      let x = invoke_moves e [] _ c.func c.args j in
      record { shown = entry c ∷ x.shown; told = entry c ∷ x.told; to = x.to; rule = enters e c callee (entry_alike e.phase ∙ h) at x.rule; comes = comes_entered _ c _ _ _ _ _ _ x.comes }
  rule_moves (rests e h) = still (rests e h)
  rule_moves (lacks c h) = still (lacks c h)

  -- where something is lacking, nothing is found
  call_unseen : (e : Env) (below : List Frame) (f : ℕ) (args : List Value) {callee : Callee} {is ts : List TraceItem} {next : Next} → Invokes inst e below f args callee is ts next → next ≡ stuck
      → (hooked : Bool) (st : Store) → sights_in st (picked hooked is ts) ≡ []
  call_unseen e below f args (begins ty locals code h) lacking hooked st = picked_unseen (begin_events (is_start inst.start f) f (function_scope code)) hooked st
  call_unseen e below f args (too_deep ty locals code h) lacking hooked st = picked_unseen no_more hooked st
  call_unseen e below f args (replies ty) lacking hooked st = absurd (return_goes inst (answered_env inst e) below _ lacking)
  call_unseen e below f args (hears ty) lacking true st = refl
  call_unseen e below f args (hears ty) lacking false st = refl

  rule_unseen : {c : Configuration} {is ts : List TraceItem} {next : Next} → StepRule inst c is ts next → next ≡ stuck → (hooked : Bool) (st : Store) → sights_in st (picked hooked is ts) ≡ []
  rule_unseen (computes e fr below i k o new l left si sr q same) lacking hooked st = picked_unseen (only_quiet q) hooked st
  rule_unseen (halts e fr below i k o t si sr q) lacking hooked st = picked_unseen (only_quiet q) hooked st
  rule_unseen (jumps e fr below i k o n left b q j) lacking hooked st = picked_unseen (quiet_events q (jump_events j)) hooked st
  rule_unseen (stays e fr below n k o) lacking hooked st = picked_unseen (an_event _ refl no_more) hooked st
  rule_unseen (calls e fr below i k o f c args left ev h q j) lacking true st = call_unseen e _ f args j lacking true st
  rule_unseen (calls e fr below i k o f c args left ev h q j) lacking false st = call_unseen e _ f args j lacking false st
  rule_unseen (misses e fr below x i k o ty f p t tx h sl) lacking hooked st = picked_unseen (an_event _ refl no_more) hooked st
  rule_unseen (opens e fr below whole o s cont ty inside body outside k left p h q e1) lacking hooked st = picked_unseen (quiet_events q (an_event _ refl no_more)) hooked st
  rule_unseen (skips e fr below bt body k o) lacking hooked st = picked_unseen (an_event _ refl no_more) hooked st
  rule_unseen (falls e fr below o l ls) lacking hooked st = picked_unseen (an_event _ refl no_more) hooked st
  rule_unseen (finishes e fr below o p h) lacking hooked st = picked_unseen (an_event _ refl (an_event _ refl (post_events below p.0))) hooked st
  rule_unseen (enters e c callee h at j) lacking true st = call_unseen e [] c.func c.args j lacking true st
  rule_unseen (enters e c callee h at j) lacking false st = call_unseen e [] c.func c.args j lacking false st
  rule_unseen (rests e h) lacking hooked st = picked_unseen no_more hooked st
  rule_unseen (lacks c h) lacking hooked st = picked_unseen h hooked st

-- ---- a step

-- with other answers a step finds the same, and comes to the same if it calls no host or gets the same answer
pub record Alike (inst : Instance) (hs : List HostAnswer) (c : Configuration) : Type 0 where
  pub sees : (st : Store) → sights_in st (items (record inst { hosts = hs }) c) ≡ sights_in st (items inst c)
  pub goes : (1 ≤ host_calls (items inst c) → SameAnswer inst hs c) → after_step (record inst { hosts = hs }) c (step (record inst { hosts = hs }) c) ≡ after_step inst c (step inst c)

-- what lacks something in one lacks it in the other
lacks_alike : (inst : Instance) (hs : List HostAnswer) (c : Configuration) → step inst c ≡ stuck → step (other inst hs) c ≡ stuck
lacks_alike inst hs c lacking = by (is_stuck (step (other inst hs) c))
  where
    by : (step (other inst hs) c ≡ stuck) ⊎ (step (other inst hs) c ≢ stuck) → step (other inst hs) c ≡ stuck
    by (inl e) = e
    by (inr some) =
        let y = rule_moves (other inst hs) inst.hosts (rule_of (other inst hs) c) in
        absurd (y.comes.some some ((rule_is inst y.rule (y.comes.some some)).next_is ∙ lacking))

pub step_alike : (inst : Instance) (hs : List HostAnswer) (c : Configuration) → Alike inst hs c
step_alike inst hs (configuration e fs) = by (is_stuck (step inst (configuration e fs)))
  where
    by : (step inst (configuration e fs) ≡ stuck) ⊎ (step inst (configuration e fs) ≢ stuck) → Alike inst hs (configuration e fs)
    by (inl lacking) =
        let too = lacks_alike inst hs (configuration e fs) lacking in
        record {
          sees = λ st.
              ap (sights_in st) (items_are inst.hooked (other inst hs) (configuration e fs)) ∙ rule_unseen (other inst hs) inst.hosts (rule_of (other inst hs) (configuration e fs)) too inst.hooked st
              ∙ sym (ap (sights_in st) (items_are inst.hooked inst (configuration e fs)) ∙ rule_unseen inst hs (rule_of inst (configuration e fs)) lacking inst.hooked st);
          goes = λ h. ap (after_step (other inst hs) (configuration e fs)) too ∙ sym (ap (after_step inst (configuration e fs)) lacking);
        }
    by (inr some) =
        let x = rule_moves inst hs (rule_of inst (configuration e fs)) in
        let r = rule_is (other inst hs) x.rule (x.comes.some some) in
        record {
          sees = λ st.
              ap (sights_in st) (items_are inst.hooked (other inst hs) (configuration e fs) ∙ ap₂ (picked inst.hooked) (sym r.shown_is) (sym r.told_is))
              ∙ x.comes.sees inst.hooked st ∙ sym (ap (sights_in st) (items_are inst.hooked inst (configuration e fs)));
          goes = λ h.
              settled_alike inst hs e fs (step (other inst hs) (configuration e fs))
              ∙ ap (after_step inst (configuration e fs)) (sym r.next_is ∙ x.comes.goes inst.hooked (λ calls. h (subst (λ is. 1 ≤ host_calls is) (sym (items_are inst.hooked inst (configuration e fs))) calls)));
        }
