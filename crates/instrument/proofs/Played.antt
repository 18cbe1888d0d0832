-- A host that answers by what it has found: a script plays it for as many steps as one likes, and in one way alone.
use Rattle.std.proofs.Common.{◌≡◌, ◌≢◌, ◌⊎◌, inl, inr, ℕ, zero, suc, ◌+◌, ◌-◌, ◌<◌, ◌≤◌, List, [], ◌∷◌, ◌++◌, length, Option, Some, None, All, refl, sym, ap, ap₂, subst, ◌∙◌, length-append, arith}
use Rattle.std.specs.Prelude.{unwrap_or}
use Rattle.std.proofs.lemmas.Bool.{cases_lt}
use Rattle.std.proofs.lemmas.List.Elements.{All-append, All-nil, All-cons}
use Rattle.wasm_sem.specs.Types.{Module}
use Rattle.wasm_sem.specs.declared.HostAnswer.{HostAnswer}
use Rattle.wasm_sem.specs.declared.Script.{Script}
use Rattle.wasm_sem.specs.Rules.{next_answer}
use Rattle.wasm_sem.specs.Execution.{hosts_in, Store, no_answer, answer_at, Instance, instance, HasWritesInRange, IsWriteInRange, Phase, opening_store, Configuration, configuration, first_phase, step, after_step, opening_configuration, run, run_of, TraceItem, entry, host_call, event, hook_call, host_calls, items}
use Rattle.wasm_sem.proofs.Runs.{run_add}
use Rattle.wasm_sem.proofs.HostCounts.{next_counts, hosts_counted}
use Rattle.module_ast.proofs.Indexed.{get_before, get_second}
use Rattle.instrument.specs.Same.{env_of}
use Rattle.instrument.specs.Hosts.{Sight, sights_in, seen_at, seen, Host, WritesInRange, Plays, with_answers}
use Rattle.instrument.proofs.Along.{store_in}
use Rattle.instrument.proofs.Hosts.{hosts_there}
use Rattle.instrument.proofs.Answers.{SameAnswer, step_alike}

-- ---- what is found is counted

pub sights_count : (st : Store) (is : List TraceItem) → length (sights_in st is) ≡ host_calls is
sights_count st [] = refl
sights_count st (host_call f vs rs ws ∷ is) = ap suc (sights_count st is)
sights_count st (entry c ∷ is) = sights_count st is
sights_count st (event e ∷ is) = sights_count st is
sights_count st (hook_call h ∷ is) = sights_count st is

pub run_next : (inst : Instance) (n : ℕ) (c : Configuration) → run inst (suc n) c ≡ after_step inst (run inst n c) (step inst (run inst n c))
run_next inst n c =
    let one : n + 1 ≡ suc n = omega arith in
    ap (λ k. run inst k c) (sym one) ∙ run_add inst n 1 c

module _ (m : Module) (s : Script) where
  -- as many as the calls of a step
  pub at_count : (n : ℕ) → length (seen_at m s n) ≡ host_calls (items (instance m s) (run_of m s n))
  at_count n = sights_count (env_of m s n).store (items (instance m s) (run_of m s n))

  -- as many as a run has made
  pub seen_count : (n : ℕ) → length (seen m s n) ≡ hosts_in (run_of m s n)
  seen_count zero = refl
  seen_count (suc n) =
      omega (arith, length-append (seen m s n) (seen_at m s n), seen_count n, at_count n, next_counts (instance m s) n (opening_configuration m s))

  pub hosts_rise : (k more : ℕ) → hosts_in (run_of m s k) ≤ hosts_in (run_of m s (k + more))
  hosts_rise k zero = let same : k + 0 ≡ k = omega arith in subst (λ n. hosts_in (run_of m s k) ≤ hosts_in (run_of m s n)) (sym same) (omega arith)
  hosts_rise k (suc more) =
      let same : k + suc more ≡ suc (k + more) = omega arith in
      subst (λ n. hosts_in (run_of m s k) ≤ hosts_in (run_of m s n)) (sym same)
      (omega (arith, hosts_rise k more, next_counts (instance m s) (k + more) (opening_configuration m s)))

  -- the answer to a call is that of its number
  pub answer_is : (n : ℕ) → next_answer (instance m s) (env_of m s n) ≡ answer_at s.hosts (hosts_in (run_of m s n))
  answer_is n = ap (answer_at s.hosts) (sym (hosts_there (run_of m s n)))

pub some_there : {A : Type 0} (xs : List A) → 1 ≤ length xs → xs ≢ []
some_there xs h e = absurd (omega (arith, h, ap length e))

pub some_count : {A : Type 0} (xs : List A) → xs ≢ [] → 1 ≤ length xs
some_count [] h = absurd (h refl)
some_count (x ∷ xs) h = omega arith

-- ---- two scripts with other answers

module _ (m : Module) (s : Script) (given : List HostAnswer) where
  abbrev t : Script
  t = with_answers given s

  first_alike : (start : Option ℕ) → first_phase (instance m t) start ≡ first_phase (instance m s) start
  first_alike None = refl
  first_alike (Some f) = refl

  opens_alike : opening_configuration m t ≡ opening_configuration m s
  opens_alike = ap (λ (ph : Phase). configuration (record { phase = ph; started = None; answers = []; store = opening_store m s }) []) (first_alike m.start)

  -- they have the same answers to the calls of the first n steps
  abbrev pub Agree : ℕ → Type 0
  Agree n = (k : ℕ) → k < n → 1 ≤ host_calls (items (instance m s) (run_of m s k)) → answer_at given (hosts_in (run_of m s k)) ≡ answer_at s.hosts (hosts_in (run_of m s k))

  same_answer : (c : Configuration) → answer_at given (hosts_in c) ≡ answer_at s.hosts (hosts_in c) → SameAnswer (instance m s) given c
  same_answer (configuration e fs) h = h

  -- then the runs are the same
  pub runs_agree : (n : ℕ) → Agree n → run_of m t n ≡ run_of m s n
  runs_agree zero agree = opens_alike
  runs_agree (suc n) agree =
      let before = runs_agree n (λ k less. agree k (omega (arith, less))) in
      run_next (instance m t) n (opening_configuration m t)
      ∙ ap (λ c. after_step (instance m t) c (step (instance m t) c)) before
      ∙ (step_alike (instance m s) given (run_of m s n)).goes (λ calls. same_answer (run_of m s n) (agree n (omega arith) calls))
      ∙ sym (run_next (instance m s) n (opening_configuration m s))

  -- and the same is found, also in the step that follows
  pub at_agrees : (n : ℕ) → Agree n → seen_at m t n ≡ seen_at m s n
  at_agrees n agree =
      ap (λ c. sights_in (store_in c) (items (instance m t) c)) (runs_agree n agree) ∙ (step_alike (instance m s) given (run_of m s n)).sees (env_of m s n).store

  pub seen_agrees : (n : ℕ) → Agree n → seen m t n ≡ seen m s n
  seen_agrees zero agree = refl
  seen_agrees (suc n) agree =
      let sooner : Agree n = λ k less. agree k (omega (arith, less)) in
      ap₂ (λ (xs ys : List Sight). xs ++ ys) (seen_agrees n sooner) (at_agrees n sooner)

  pub next_agrees : (n : ℕ) → Agree n → seen m t (suc n) ≡ seen m s (suc n)
  next_agrees n agree = ap₂ (λ (xs ys : List Sight). xs ++ ys) (seen_agrees n agree) (at_agrees n agree)

  -- two that play one host agree, step by step
  agree_next : (h : Host) (n : ℕ) → Agree n → Plays h m s (suc n) → Plays h m t (suc n) → Agree (suc n)
  agree_next h n sooner p q k less calls = by (cases_lt k n)
    where
      last : (j : ℕ) → j ≡ n → 1 ≤ host_calls (items (instance m s) (run_of m s j)) → answer_at given (hosts_in (run_of m s j)) ≡ answer_at s.hosts (hosts_in (run_of m s j))
      last j e calls =
          let until : Agree j = λ i l. sooner i (omega (arith, l, e)) in
          let found = some_there (seen_at m s j) (omega (arith, calls, at_count m s j)) in
          let too = λ (none : seen_at m t j ≡ []). found (sym (at_agrees j until) ∙ none) in
          ap (λ c. answer_at given (hosts_in c)) (sym (runs_agree j until)) ∙ sym (answer_is m t j) ∙ q j (omega (arith, e)) too
          ∙ ap h (next_agrees j until) ∙ sym (p j (omega (arith, e)) found) ∙ answer_is m s j

      by : (k < n) ⊎ (n ≤ k) → answer_at given (hosts_in (run_of m s k)) ≡ answer_at s.hosts (hosts_in (run_of m s k))
      by (inl l) = sooner k l calls
      by (inr l) = last k (omega (arith, l, less)) calls

  pub plays_agree : (h : Host) (n : ℕ) → Plays h m s n → Plays h m t n → Agree n
  plays_agree h zero p q = λ k less calls. absurd (omega (arith, less))
  plays_agree h (suc n) p q = agree_next h n (plays_agree h n (λ j l. p j (omega (arith, l))) (λ j l. q j (omega (arith, l)))) p q

-- ---- a script that plays a host

module _ (h : Host) (m : Module) (s : Script) where
  -- one answer more, if something is found
  abbrev answer_to : List Sight → HostAnswer → List HostAnswer
  answer_to [] a = []
  answer_to (x ∷ xs) a = a ∷ []

  abbrev pub played : ℕ → List HostAnswer
  played zero = []
  played (suc n) = played n ++ answer_to (seen_at m (with_answers (played n) s) n) (h (seen m (with_answers (played n) s) (suc n)))

  abbrev pub script_at : ℕ → Script
  script_at n = with_answers (played n) s

  -- what step n adds to the answers
  abbrev next_answers : ℕ → List HostAnswer
  next_answers n = answer_to (seen_at m (script_at n) n) (h (seen m (script_at n) (suc n)))

  -- it has an answer for each call
  pub record IsPlayed (n : ℕ) : Type 0 where
    pub plays : Plays h m (script_at n) n
    pub count : length (played n) ≡ hosts_in (run_of m (script_at n) n)

  answers_count : (xs : List Sight) (a : HostAnswer) → length xs ≤ 1 → length (answer_to xs a) ≡ length xs
  answers_count [] a few = refl
  answers_count (x ∷ xs) a few = omega (arith, few)

  answer_there : (given : List HostAnswer) (xs : List Sight) (a : HostAnswer) → xs ≢ [] → answer_at (given ++ answer_to xs a) (length given) ≡ a
  answer_there given [] a some = absurd (some refl)
  answer_there given (x ∷ xs) a some =
      let same : length given + 0 ≡ length given = omega arith in
      ap (λ i. answer_at (given ++ a ∷ []) i) (sym same) ∙ ap (λ (o : Option HostAnswer). unwrap_or o no_answer) (get_second given (a ∷ []) 0)

  answer_first : (given bs : List HostAnswer) (i : ℕ) → i < length given → answer_at (given ++ bs) i ≡ answer_at given i
  answer_first given bs i less = ap (λ (o : Option HostAnswer). unwrap_or o no_answer) (get_before given bs i less)

  played_next : (n : ℕ) → IsPlayed n → IsPlayed (suc n)
  played_next n before = record { plays = λ k less found. by k less found (cases_lt k n); count = count }
    where
      agree : Agree m (script_at n) (played (suc n)) n
      agree k less calls =
          let there = hosts_rise m (script_at n) (suc k) (n - suc k) in
          let same : suc k + (n - suc k) ≡ n = omega (arith, less) in
          let within : hosts_in (run_of m (script_at n) (suc k)) ≤ hosts_in (run_of m (script_at n) n) = subst (λ j. hosts_in (run_of m (script_at n) (suc k)) ≤ hosts_in (run_of m (script_at n) j)) same there in
          answer_first (played n) (next_answers n) (hosts_in (run_of m (script_at n) k)) (omega (arith, within, before.count, calls, next_counts (instance m (script_at n)) k (opening_configuration m (script_at n))))

      until : (k : ℕ) → k ≤ n → Agree m (script_at n) (played (suc n)) k
      until k few j less = agree j (omega (arith, few, less))

      by : (k : ℕ) → k < suc n → seen_at m (script_at (suc n)) k ≢ [] → (k < n) ⊎ (n ≤ k) → next_answer (instance m (script_at (suc n))) (env_of m (script_at (suc n)) k) ≡ h (seen m (script_at (suc n)) (suc k))
      by k less found (inl l) =
          let same = at_agrees m (script_at n) (played (suc n)) k (until k (omega (arith, l))) in
          let there = λ (none : seen_at m (script_at n) k ≡ []). found (same ∙ none) in
          answer_is m (script_at (suc n)) k ∙ ap (λ c. answer_at (played (suc n)) (hosts_in c)) (runs_agree m (script_at n) (played (suc n)) k (until k (omega (arith, l))))
          ∙ agree k l (omega (arith, at_count m (script_at n) k, some_count (seen_at m (script_at n) k) there))
          ∙ sym (answer_is m (script_at n) k) ∙ before.plays k l there ∙ ap h (sym (next_agrees m (script_at n) (played (suc n)) k (until k (omega (arith, l)))))
      by k less found (inr l) = last k (omega (arith, l, less)) found
        where
          last : (k : ℕ) → k ≡ n → seen_at m (script_at (suc n)) k ≢ [] → next_answer (instance m (script_at (suc n))) (env_of m (script_at (suc n)) k) ≡ h (seen m (script_at (suc n)) (suc k))
          last k e found =
              let f = subst (λ j. seen_at m (script_at (suc n)) j ≢ []) e found in
              let there = λ (none : seen_at m (script_at n) n ≡ []). f (at_agrees m (script_at n) (played (suc n)) n agree ∙ none) in
              subst (λ j. next_answer (instance m (script_at (suc n))) (env_of m (script_at (suc n)) j) ≡ h (seen m (script_at (suc n)) (suc j))) (sym e)
              (answer_is m (script_at (suc n)) n ∙ ap (λ c. answer_at (played (suc n)) (hosts_in c)) (runs_agree m (script_at n) (played (suc n)) n agree)
              ∙ ap (answer_at (played (suc n))) (sym before.count) ∙ answer_there (played n) (seen_at m (script_at n) n) (h (seen m (script_at n) (suc n))) there
              ∙ ap h (sym (next_agrees m (script_at n) (played (suc n)) n agree)))

      count : length (played (suc n)) ≡ hosts_in (run_of m (script_at (suc n)) (suc n))
      count =
          let few = (hosts_counted m (script_at n) n).1 in
          omega (
            arith,
            length-append (played n) (next_answers n),
            answers_count (seen_at m (script_at n) n) (h (seen m (script_at n) (suc n))) (omega (arith, few, at_count m (script_at n) n)),
            before.count,
            ap length (at_agrees m (script_at n) (played (suc n)) n agree),
            at_count m (script_at (suc n)) n,
            next_counts (instance m (script_at (suc n))) n (opening_configuration m (script_at (suc n))),
            ap hosts_in (runs_agree m (script_at n) (played (suc n)) n agree),
          )

  pub is_played : (n : ℕ) → IsPlayed n
  is_played zero = record { plays = λ k less. absurd (omega (arith, less)); count = refl }
  is_played (suc n) = played_next n (is_played n)

  -- the host writes in range, and so does the script
  pub played_in_range : WritesInRange h → (n : ℕ) → HasWritesInRange (script_at n)
  played_in_range range zero = All-nil (λ (a : HostAnswer). All IsWriteInRange a.writes)
  played_in_range range (suc n) = All-append (λ (a : HostAnswer). All IsWriteInRange a.writes) (played n) (answer_to (seen_at m (script_at n) n) (h (seen m (script_at n) (suc n)))) (played_in_range range n) (one (seen_at m (script_at n) n))
    where
      one : (xs : List Sight) → All (λ (a : HostAnswer). All IsWriteInRange a.writes) (answer_to xs (h (seen m (script_at n) (suc n))))
      one [] = All-nil (λ (a : HostAnswer). All IsWriteInRange a.writes)
      one (x ∷ xs) = All-cons (λ (a : HostAnswer). All IsWriteInRange a.writes) (h (seen m (script_at n) (suc n))) [] (range (seen m (script_at n) (suc n))) (All-nil (λ (a : HostAnswer). All IsWriteInRange a.writes))
