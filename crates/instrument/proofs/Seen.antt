-- What a step of the output calls, the step of the original that it is a part of shows.
use Rattle.std.proofs.Common.{◌≡◌, inl, inr, ℕ, ◌≤◌, List, [], ◌∷◌, ◌++◌, map, Bool, true, false, Option, subst, arith}
use Rattle.wasm_sem.specs.Types.{Value, Event}
use Rattle.wasm_sem.specs.declared.HostWrite.{HostWrite}
use Rattle.wasm_sem.specs.declared.HookCall.{HookCall}
use Rattle.module_ast.specs.Lists.{when}
use Rattle.hook_select.specs.Selections.{chooses}
use Rattle.wasm_sem.specs.Execution.{TraceItem, entry, host_call, event, hook_call, instance, run_of, host_calls, items, kept_items}
use Rattle.module_ast.proofs.Indexed.{IsIn, in_at, in_front, in_behind, in_mapped, at_in}
use Rattle.static_info.specs.declared.Info.{Info}
use Rattle.static_info.specs.Items.{read, read_call}
use Rattle.instrument.specs.Same.{env_of, told_at, shown_at}
use Rattle.instrument.specs.Laws.{HostsSeeTheSame, HooksSeeTheSame}

module _ (f : ℕ) (vs rs : List Value) (ws : List HostWrite) where
  abbrev call : TraceItem
  call = host_call f vs rs ws

  -- a call of the host stays one when it is read
  call_read : (info : Info) (slots : List (Option ℕ)) (is : List TraceItem) → IsIn call is → IsIn call (read info slots is)
  call_read info slots [] h = absurd h
  call_read info slots (event e ∷ is) (inl e1) = absurd (cc)
  call_read info slots (event e ∷ is) (inr h) = call_read info slots is h
  call_read info slots (entry c ∷ is) (inl e1) = absurd (cc)
  call_read info slots (entry c ∷ is) (inr h) = inr (call_read info slots is h)
  call_read info slots (host_call g us qs xs ∷ is) (inl e1) = inl e1
  call_read info slots (host_call g us qs xs ∷ is) (inr h) = inr (call_read info slots is h)
  call_read info slots (hook_call c ∷ is) (inl e1) = absurd (cc)
  call_read info slots (hook_call c ∷ is) (inr h) = in_behind call (map event (read_call info slots c)) (read info slots is) (call_read info slots is h)

  -- it is counted
  pub call_counts : (is : List TraceItem) → IsIn call is → 1 ≤ host_calls is
  call_counts [] h = absurd h
  call_counts (event e ∷ is) (inl e1) = absurd (cc)
  call_counts (event e ∷ is) (inr h) = call_counts is h
  call_counts (entry c ∷ is) (inl e1) = absurd (cc)
  call_counts (entry c ∷ is) (inr h) = call_counts is h
  call_counts (host_call g us qs xs ∷ is) h = omega arith
  call_counts (hook_call c ∷ is) (inl e1) = absurd (cc)
  call_counts (hook_call c ∷ is) (inr h) = call_counts is h

-- an event of a hook call is among what is read
event_read : (info : Info) (slots : List (Option ℕ)) (is : List TraceItem) (h : HookCall) (e : Event) → IsIn (hook_call h) is → IsIn e (read_call info slots h) → IsIn (event e) (read info slots is)
event_read info slots [] h e there among = absurd there
event_read info slots (event x ∷ is) h e (inl e1) among = absurd (cc)
event_read info slots (event x ∷ is) h e (inr there) among = event_read info slots is h e there among
event_read info slots (entry c ∷ is) h e (inl e1) among = absurd (cc)
event_read info slots (entry c ∷ is) h e (inr there) among = inr (event_read info slots is h e there among)
event_read info slots (host_call g us qs xs ∷ is) h e (inl e1) among = absurd (cc)
event_read info slots (host_call g us qs xs ∷ is) h e (inr there) among = inr (event_read info slots is h e there among)
event_read info slots (hook_call c ∷ is) h e (inl e1) among =
    let same : h ≡ c = cc in
    in_front (event e) (map event (read_call info slots c)) (read info slots is) (in_mapped event e (read_call info slots c) (subst (λ c. IsIn e (read_call info slots c)) same among))
event_read info slots (hook_call c ∷ is) h e (inr there) among =
    in_behind (event e) (map event (read_call info slots c)) (read info slots is) (event_read info slots is h e there among)

-- what is chosen was there
chosen_in : (keeps : Event → Bool) (x : TraceItem) (is : List TraceItem) → IsIn x (kept_items keeps is) → IsIn x is
chosen_in keeps x [] h = absurd h
chosen_in keeps x (event e ∷ is) h = by (keeps e) h (λ k. chosen_in keeps x is k)
  where
    by : (b : Bool) → IsIn x (when b (event e ∷ []) ++ kept_items keeps is) → (IsIn x (kept_items keeps is) → IsIn x is) → IsIn x (event e ∷ is)
    by true (inl p) rest = inl p
    by true (inr k) rest = inr (rest k)
    by false k rest = inr (rest k)
chosen_in keeps x (entry c ∷ is) (inl p) = inl p
chosen_in keeps x (entry c ∷ is) (inr k) = inr (chosen_in keeps x is k)
chosen_in keeps x (host_call f vs rs ws ∷ is) (inl p) = inl p
chosen_in keeps x (host_call f vs rs ws ∷ is) (inr k) = inr (chosen_in keeps x is k)
chosen_in keeps x (hook_call h ∷ is) k = inr (chosen_in keeps x is k)

-- what is told at a step of the output is shown at the step of the original that it is a part of
part_shows : (x : TraceItem) (front told back shown : List TraceItem) → front ++ (told ++ back) ≡ shown → IsIn x told → IsIn x shown
part_shows x front told back shown now there = subst (IsIn x) now (in_behind x front (told ++ back) (in_front x told back there))

pub hosts_see : HostsSeeTheSame
hosts_see info m hooks o s same k f vs rs ws shows =
    let p = same.parts k in
    let its = items (instance o s) (run_of o s k) in
    let x = host_call f vs rs ws in
    let here : IsIn x (told_at info o s k) = call_read f vs rs ws info (env_of o s k).store.slots its (in_at its shows.0 x shows.1) in
    let there = chosen_in (chooses hooks) x (items (instance m s) (run_of m s p.0)) (part_shows x p.2.front (told_at info o s k) p.2.back (shown_at m hooks s p.0) p.2.now here) in
    (p.0, p.1, at_in (items (instance m s) (run_of m s p.0)) x there, p.2.host (call_counts f vs rs ws (told_at info o s k) here))

pub hooks_see : HooksSeeTheSame
hooks_see info m hooks o s same k h shows =
    let p = same.parts k in
    let its = items (instance o s) (run_of o s k) in (
      p.0,
      p.1,
      λ i e at.
          let here : IsIn (event e) (told_at info o s k) = event_read info (env_of o s k).store.slots its h e (in_at its shows.0 (hook_call h) shows.1) (in_at (read_call info (env_of o s k).store.slots h) i e at) in
          at_in (items (instance m s) (run_of m s p.0)) (event e)
          (chosen_in (chooses hooks) (event e) (items (instance m s) (run_of m s p.0)) (part_shows (event e) p.2.front (told_at info o s k) p.2.back (shown_at m hooks s p.0) p.2.now here)),
      p.2.store,
    )
