-- All that hosts find in the output is what they find in the original, in the same order. So what plays a host in the
-- original plays it in the output.
use Rattle.std.proofs.Common.{◌≡◌, ◌≢◌, ◌⊎◌, inl, inr, ℕ, zero, suc, ◌+◌, ◌-◌, ◌<◌, ◌≤◌, List, [], ◌∷◌, ◌++◌, length, refl, sym, ap, ap₂, subst, ◌∙◌, append_assoc, append-nil, length-append, arith}
use Rattle.std.proofs.lemmas.Bool.{cases_lt}
use Rattle.wasm_sem.specs.Types.{Value, Module, Selection}
use Rattle.wasm_sem.specs.declared.HostWrite.{HostWrite}
use Rattle.wasm_sem.specs.declared.Script.{Script}
use Rattle.wasm_sem.specs.Execution.{Store, answer_at, instance, run_of, TraceItem, entry, host_call, event, hook_call, host_calls, items}
use Rattle.wasm_sem.proofs.HostCounts.{hosts_counted}
use Rattle.module_ast.proofs.Indexed.{IsIn, in_at, at_in}
use Rattle.static_info.specs.declared.Info.{Info}
use Rattle.instrument.specs.Same.{env_of, HaveSameStore, IsPrefix, SameRunsBy}
use Rattle.instrument.specs.Hosts.{Sight, sight, sights_in, seen_at, seen, Host, Plays, with_answers}
use Rattle.instrument.specs.Laws.{HostsSeeInOrder, HostsCanBePlayed, HostsArePlayedAlike}
use Rattle.instrument.proofs.Hosts.{hosts_there}
use Rattle.instrument.proofs.Seen.{call_counts, hosts_see}
use Rattle.instrument.proofs.Played.{sights_count, at_count, seen_count, some_there, some_count, runs_agree, plays_agree, played, is_played, played_in_range}

-- ---- one call

nothing : {A : Type 0} (xs : List A) → length xs ≡ 0 → xs ≡ []
nothing [] h = refl
nothing (x ∷ xs) h = absurd (omega (arith, h))

-- the call among items that have no other
one_found : (st : Store) (f : ℕ) (vs rs : List Value) (ws : List HostWrite) (is : List TraceItem) → IsIn (host_call f vs rs ws) is → host_calls is ≤ 1 → sights_in st is ≡ sight st f vs ∷ []
one_found st f vs rs ws [] h few = absurd h
one_found st f vs rs ws (event e ∷ is) (inl e1) few = absurd (cc)
one_found st f vs rs ws (event e ∷ is) (inr h) few = one_found st f vs rs ws is h few
one_found st f vs rs ws (entry c ∷ is) (inl e1) few = absurd (cc)
one_found st f vs rs ws (entry c ∷ is) (inr h) few = one_found st f vs rs ws is h few
one_found st f vs rs ws (hook_call c ∷ is) (inl e1) few = absurd (cc)
one_found st f vs rs ws (hook_call c ∷ is) (inr h) few = one_found st f vs rs ws is h few
one_found st f vs rs ws (host_call g us qs xs ∷ is) (inl e1) few =
    let func : g ≡ f = cc in
    let args : us ≡ vs = cc in
    ap₂ (λ (s : Sight) (ss : List Sight). s ∷ ss) (ap₂ (sight st) func args) (nothing (sights_in st is) (omega (arith, few, sights_count st is)))
one_found st f vs rs ws (host_call g us qs xs ∷ is) (inr h) few = absurd (omega (arith, few, call_counts f vs rs ws is h))

record IsCall (is : List TraceItem) : Type 0 where
  func : ℕ
  args : List Value
  results : List Value
  writes : List HostWrite
  among : IsIn (host_call func args results writes) is

a_call : (is : List TraceItem) → 1 ≤ host_calls is → IsCall is
a_call [] h = absurd (omega (arith, h))
a_call (host_call f vs rs ws ∷ is) h = record { func = f; args = vs; results = rs; writes = ws; among = inl refl }
a_call (event e ∷ is) h = let c = a_call is h in record { func = c.func; args = c.args; results = c.results; writes = c.writes; among = inr c.among }
a_call (entry e ∷ is) h = let c = a_call is h in record { func = c.func; args = c.args; results = c.results; writes = c.writes; among = inr c.among }
a_call (hook_call e ∷ is) h = let c = a_call is h in record { func = c.func; args = c.args; results = c.results; writes = c.writes; among = inr c.among }

-- ---- one run

module _ (m : Module) (s : Script) where
  seen_rises : (n more : ℕ) → IsPrefix (seen m s n) (seen m s (n + more))
  seen_rises n zero =
      let same : n + 0 ≡ n = omega arith in
      ([], append-nil (seen m s n) ∙ ap (seen m s) (sym same))
  seen_rises n (suc more) =
      let (rest, joined) = seen_rises n more in
      let same : n + suc more ≡ suc (n + more) = omega arith in
      (rest ++ seen_at m s (n + more), sym (append_assoc (seen m s n) rest (seen_at m s (n + more))) ∙ ap (λ xs. xs ++ seen_at m s (n + more)) joined ∙ ap (seen m s) (sym same))

  pub seen_within : (n j : ℕ) → n ≤ j → IsPrefix (seen m s n) (seen m s j)
  seen_within n j few =
      let same : n + (j - n) ≡ j = omega (arith, few) in
      subst (λ i. IsPrefix (seen m s n) (seen m s i)) same (seen_rises n (j - n))

  no_more : (xs ys : List Sight) → IsPrefix xs ys → length xs ≡ length ys → xs ≡ ys
  no_more xs ys (rest, joined) same =
      let none : rest ≡ [] = nothing rest (omega (arith, same, ap length joined, length-append xs rest)) in
      sym (append-nil xs) ∙ ap (λ zs. xs ++ zs) (sym none) ∙ joined

  -- as much was found, so the same
  pub same_length : (n j : ℕ) → length (seen m s n) ≡ length (seen m s j) → seen m s n ≡ seen m s j
  same_length n j same = by (cases_lt n j)
    where
      by : (n < j) ⊎ (j ≤ n) → seen m s n ≡ seen m s j
      by (inl l) = no_more (seen m s n) (seen m s j) (seen_within n j (omega (arith, l))) same
      by (inr l) = sym (no_more (seen m s j) (seen m s n) (seen_within j n l) (sym same))

-- ---- the output beside the original

module _ (info : Info) (m : Module) (hooks : Selection) (o : Module) (s : Script) (same : SameRunsBy info m hooks o s) where
  -- a step of the output that finds something, and the step of the original that finds it
  record IsFound (k : ℕ) : Type 0 where
    at : ℕ
    within : at ≤ k
    finds : seen_at m s at ≡ seen_at o s k
    store : HaveSameStore info m o s at k

  found : (k : ℕ) → seen_at o s k ≢ [] → IsFound k
  found k some =
      let calls : 1 ≤ host_calls (items (instance o s) (run_of o s k)) = omega (arith, some_count (seen_at o s k) some, at_count o s k) in
      let its = items (instance o s) (run_of o s k) in
      let c = a_call its calls in
      let x = host_call c.func c.args c.results c.writes in
      let (n, within, shows, store) = hosts_see info m hooks o s same k c.func c.args c.results c.writes (at_in its x c.among) in
      let there = items (instance m s) (run_of m s n) in
      record {
        at = n;
        within = within;
        finds = one_found (env_of m s n).store c.func c.args c.results c.writes there (in_at there shows.0 x shows.1) (hosts_counted m s n).1
            ∙ sym (one_found (env_of o s k).store c.func c.args c.results c.writes its c.among (hosts_counted o s k).1
            ∙ ap (λ st. sight st c.func c.args ∷ []) store);
        store = store;
      }

  -- where the store is the same, as much was found
  counts : (n k : ℕ) → HaveSameStore info m o s n k → length (seen o s k) ≡ length (seen m s n)
  counts n k store =
      seen_count o s k ∙ hosts_there (run_of o s k) ∙ ap (λ (st : Store). st.hosts) store ∙ sym (seen_count m s n ∙ hosts_there (run_of m s n))

  record Reaches (k : ℕ) : Type 0 where
    at : ℕ
    within : at ≤ k
    all : seen o s k ≡ seen m s at

  reached : (k : ℕ) → Reaches k
  reached zero = record { at = 0; within = omega arith; all = refl }
  reached (suc k) = by (seen_at o s k) refl (reached k)
    where
      by : (xs : List Sight) → seen_at o s k ≡ xs → Reaches k → Reaches (suc k)
      by [] e r = record { at = r.at; within = omega (arith, r.within); all = ap (λ xs. seen o s k ++ xs) e ∙ append-nil (seen o s k) ∙ r.all }
      by (x ∷ xs) e r =
          let f = found k (some_there (seen_at o s k) (omega (arith, ap length e))) in
          let before : seen m s r.at ≡ seen m s f.at = same_length m s r.at f.at (ap length (sym r.all) ∙ counts f.at k f.store) in
          record { at = suc f.at; within = omega (arith, f.within); all = ap₂ (λ (xs ys : List Sight). xs ++ ys) (r.all ∙ before) (sym f.finds) }

  pub seen_alike : (n k : ℕ) → HaveSameStore info m o s n k → seen o s k ≡ seen m s n
  seen_alike n k store =
      let r = reached k in
      r.all ∙ same_length m s r.at n (ap length (sym r.all) ∙ counts n k store)

  pub seen_begins : (k : ℕ) → IsPrefix (seen o s k) (seen m s k)
  seen_begins k =
      let r = reached k in
      subst (λ xs. IsPrefix xs (seen m s k)) (sym r.all) (seen_within m s r.at k r.within)

  -- what plays a host in the original plays it in the output
  pub plays_too : (h : Host) (n : ℕ) → Plays h m s n → Plays h o s n
  plays_too h n plays k less some =
      let f = found k some in
      let there = λ (none : seen_at m s f.at ≡ []). some (sym f.finds ∙ none) in
      ap (λ (st : Store). answer_at s.hosts st.hosts) f.store ∙ plays f.at (omega (arith, f.within, less)) there
      ∙ ap h (ap₂ (λ (xs ys : List Sight). xs ++ ys) (sym (seen_alike f.at k f.store)) f.finds)

-- ---- the laws

pub hosts_see_in_order : HostsSeeInOrder
hosts_see_in_order info m hooks o s same = record { begins = seen_begins info m hooks o s same; alike = seen_alike info m hooks o s same }

pub hosts_can_be_played : HostsCanBePlayed
hosts_can_be_played info m hooks o same h range s links n =
    let answers = played h m s n in
    let runs = same.runs (with_answers answers s) (played_in_range h m s range n) links in
    let plays = (is_played h m s n).plays in
    record { answers = answers; original = plays; output = plays_too info m hooks o (with_answers answers s) runs h n plays; same = runs }

pub hosts_are_played_alike : HostsArePlayedAlike
hosts_are_played_alike h m s answers n plays plays_it_too = runs_agree m s answers n (plays_agree m s answers h n plays plays_it_too)
