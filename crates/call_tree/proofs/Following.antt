-- Entries and events, one by one, make the state of their list.
use Rattle.std.proofs.Common.{◌≡◌, ℕ, suc, ◌+◌, List, [], ◌∷◌, ◌++◌, map, count_by, Option, Some, None, option_map, option_and_then, unwrap_or, Bool, true, false, cond, ◌||◌, true≢false, refl, sym, ap, ap₂, ◌∙◌, arith}
use Rattle.std.specs.Ordering.{nat_cmp, eq_by_cmp}
use Rattle.std.specs.Cmp.Lexicographic.{slice_cmp}
use Rattle.std.specs.FinMap.{get, find, same_map, get-from_entries, get-insert}
use Rattle.std.proofs.lemmas.Cmp.{nat_list_cmp_total}
use Rattle.std.proofs.lemmas.Map.Lookups.{exact_bytes}
use Rattle.std.proofs.lemmas.List.{append-nil, append_assoc}
use Rattle.std.specs.List.{list_any}
use Rattle.std.proofs.lemmas.List.Sums.{sum_by-append}
use Rattle.std.proofs.lemmas.List.Folds.{list_any-append}
use Rattle.wasm_sem.specs.Types.{Event}
use Rattle.wasm_sem.specs.Execution.{Entry, TraceItem, entry, host_call, event, hook_call}
use Rattle.wasm_sem.specs.Nests.{Bracket}
use Rattle.call_tree.specs.Counts.{PathCounts, with_path, count_in}
use Rattle.call_tree.specs.Paths.{open_after, open_after_all, path_begun, paths, paths_from}
use Rattle.call_tree.specs.State.{TreeState, entered, counted_from, taken_by, tree_after, path_counts_in, event_count, state_with, state_of, state_behind, TakesMakeTree}
use Rattle.call_tree.proofs.PathOrder.{same_path}
use Rattle.call_tree.proofs.Nested.{open_append, stays_bad}

-- ---- counts of a list of paths

abbrev pub same : List ℕ → List ℕ → Bool
same p q = eq_by_cmp (slice_cmp nat_cmp) p q

abbrev pub times : List ℕ → List (List ℕ) → ℕ
times p ps = count_by (same p) ps

times_push : (p q : List ℕ) (ps : List (List ℕ)) → times p (ps ++ q ∷ []) ≡ times p ps + cond (same p q) 1 0
times_push p q ps = sum_by-append (λ x. cond (same p x) 1 0) ps (q ∷ []) ∙ omega arith

abbrev pub comes : List ℕ → List (List ℕ) → Bool
comes p ps = list_any (same p) ps

-- the counts by one list of the paths of another
found_times : (p : List ℕ) (all ps : List (List ℕ)) → find (slice_cmp nat_cmp) p (map (λ (r : List ℕ). (r, times r all)) ps) ≡ cond (comes p ps) (Some (times p all)) None
found_times p all [] = refl
found_times p all (q ∷ ps) = go (same p q) refl (found_times p all ps)
  where
    go : (b : Bool) → same p q ≡ b → find (slice_cmp nat_cmp) p (map (λ (r : List ℕ). (r, times r all)) ps) ≡ cond (comes p ps) (Some (times p all)) None
        → cond b (Some (times q all)) (find (slice_cmp nat_cmp) p (map (λ (r : List ℕ). (r, times r all)) ps)) ≡ cond (b || comes p ps) (Some (times p all)) None
    go true is rest = ap (λ r. Some (times r all)) (sym (same_path p q is))
    go false is rest = rest

-- a path that does not come
no_times : (p : List ℕ) (ps : List (List ℕ)) → comes p ps ≡ false → times p ps ≡ 0
no_times p [] h = refl
no_times p (q ∷ ps) h =
    let w = neither (same p q) (comes p ps) h in
    sum_by-append (λ x. cond (same p x) 1 0) (q ∷ []) ps ∙ (ap₂ (λ (b : Bool) (n : ℕ). (0 + cond b 1 0) + n) w.0 (no_times p ps w.1) ∙ omega arith)
  where
    neither : (a b : Bool) → (a || b) ≡ false → (a ≡ false) × (b ≡ false)
    neither true b h = absurd (true≢false h)
    neither false b h = (refl, h)

pub got : (p : List ℕ) (ps : List (List ℕ)) → get (path_counts_in ps) p ≡ cond (comes p ps) (Some (times p ps)) None
got p ps = get-from_entries nat_list_cmp_total (map (λ (r : List ℕ). (r, times r ps)) ps) p ∙ found_times p ps ps

counted_times : (p : List ℕ) (ps : List (List ℕ)) → count_in (path_counts_in ps) p ≡ times p ps
counted_times p ps = ap (λ (o : Option ℕ). unwrap_or o 0) (got p ps) ∙ go (comes p ps) refl
  where
    go : (b : Bool) → comes p ps ≡ b → unwrap_or (cond b (Some (times p ps)) None) 0 ≡ times p ps
    go true is = refl
    go false is = sym (no_times p ps is)

came : (p q : List ℕ) (ps : List (List ℕ)) → comes p (ps ++ q ∷ []) ≡ (comes p ps || (same p q || false))
came p q ps = list_any-append (same p) ps (q ∷ [])

-- with a path more
counts_push : (ps : List (List ℕ)) (q : List ℕ) → path_counts_in (ps ++ q ∷ []) ≡ with_path (path_counts_in ps) q
counts_push ps q =
    same_map nat_list_cmp_total exact_bytes (path_counts_in (ps ++ q ∷ [])) (with_path (path_counts_in ps) q)
    (λ p. got p (ps ++ q ∷ [])
    ∙ (at p (same p q) refl
    ∙ sym (get-insert nat_list_cmp_total (path_counts_in ps) q (count_in (path_counts_in ps) q + 1) p
    ∙ ap₂ (λ (n : ℕ) (o : Option ℕ). cond (same p q) (Some (n + 1)) o) (counted_times q ps) (got p ps))))
  where
    or_true : (b : Bool) → (b || (true || false)) ≡ true
    or_true true = refl
    or_true false = refl

    or_false : (b : Bool) → (b || (false || false)) ≡ b
    or_false true = refl
    or_false false = refl

    at : (p : List ℕ) (b : Bool) → same p q ≡ b
        → cond (comes p (ps ++ q ∷ [])) (Some (times p (ps ++ q ∷ []))) None ≡ cond (same p q) (Some (times q ps + 1)) (cond (comes p ps) (Some (times p ps)) None)
    at p true is =
        ap₂ (λ (b : Bool) (n : ℕ). cond b (Some n) None)
        (came p q ps ∙ (ap (λ c. comes p ps || (c || false)) is ∙ or_true (comes p ps)))
        (times_push p q ps ∙ (ap (λ c. times p ps + cond c 1 0) is ∙ ap (λ r. times r ps + 1) (same_path p q is)))
        ∙ ap (λ c. cond c (Some (times q ps + 1)) (cond (comes p ps) (Some (times p ps)) None)) (sym is)
    at p false is =
        let none : times p ps + 0 ≡ times p ps = omega arith in
        ap₂ (λ (b : Bool) (n : ℕ). cond b (Some n) None)
        (came p q ps ∙ (ap (λ c. comes p ps || (c || false)) is ∙ or_false (comes p ps)))
        (times_push p q ps ∙ (ap (λ c. times p ps + cond c 1 0) is ∙ none))
        ∙ ap (λ c. cond c (Some (times q ps + 1)) (cond (comes p ps) (Some (times p ps)) None)) (sym is)

counts_further : (ps qs : List (List ℕ)) → path_counts_in (ps ++ qs) ≡ counted_from (path_counts_in ps) qs
counts_further ps [] = ap path_counts_in (append-nil ps)
counts_further ps (q ∷ qs) =
    ap path_counts_in (sym (append_assoc ps (q ∷ []) qs)) ∙ (counts_further (ps ++ q ∷ []) qs ∙ ap (λ m. counted_from m qs) (counts_push ps q))

-- ---- an item more

abbrev last_paths : Option (List Bracket) → TraceItem → List (List ℕ)
last_paths None i = []
last_paths (Some brackets) i = path_begun brackets i

no_items : (o : Option (List Bracket)) → paths_from o [] ≡ []
no_items None = refl
no_items (Some brackets) = refl

paths_push : (o : Option (List Bracket)) (is : List TraceItem) (i : TraceItem) → paths_from o (is ++ i ∷ []) ≡ paths_from o is ++ last_paths (open_after_all o is) i
paths_push None [] i = refl
paths_push None (j ∷ js) i = sym (ap (λ o. last_paths o i) (stays_bad js))
paths_push (Some brackets) [] i = ap (λ l. path_begun brackets i ++ l) (no_items (open_after brackets i)) ∙ append-nil (path_begun brackets i)
paths_push (Some brackets) (j ∷ js) i =
    ap (λ l. path_begun brackets j ++ l) (paths_push (open_after brackets j) js i)
    ∙ sym (append_assoc (path_begun brackets j) (paths_from (open_after brackets j) js) (last_paths (open_after_all (open_after brackets j) js) i))

more_events : (is : List TraceItem) (e : Event) → event_count (is ++ event e ∷ []) ≡ event_count is + 1
more_events [] e = refl
more_events (event f ∷ is) e = omega (arith, more_events is e)
more_events (entry c ∷ is) e = more_events is e
more_events (host_call f vs rs ws ∷ is) e = more_events is e
more_events (hook_call h ∷ is) e = more_events is e

no_event : (is : List TraceItem) (i : TraceItem) → event_count (i ∷ []) ≡ 0 → event_count (is ++ i ∷ []) ≡ event_count is
no_event [] i h = h
no_event (event f ∷ is) i h = ap suc (no_event is i h)
no_event (entry d ∷ is) i h = no_event is i h
no_event (host_call f vs rs ws ∷ is) i h = no_event is i h
no_event (hook_call c ∷ is) i h = no_event is i h

abbrev opened : List TraceItem → Option (List Bracket)
opened is = open_after_all (Some []) is

entry_at_state : (is : List TraceItem) (c : Entry) (o : Option (List Bracket)) → opened is ≡ o
    → option_map (state_with (is ++ entry c ∷ [])) (open_after_all o (entry c ∷ [])) ≡ option_map entered (option_map (state_with is) o)
entry_at_state is c None is-open = refl
entry_at_state is c (Some brackets) is-open =
    let ps : paths (is ++ entry c ∷ []) ≡ paths is = paths_push (Some []) is (entry c) ∙ (ap (λ o. paths is ++ last_paths o (entry c)) is-open ∙ append-nil (paths is)) in
    ap₂ (λ (l : List (List ℕ)) (n : ℕ). Some (record { brackets = []; counts = path_counts_in l; taken = n })) ps (no_event is (entry c) refl)

event_at_state : (is : List TraceItem) (e : Event) (o : Option (List Bracket)) → opened is ≡ o
    → option_map (state_with (is ++ event e ∷ [])) (open_after_all o (event e ∷ [])) ≡ option_and_then (λ (s : TreeState). tree_after s e) (option_map (state_with is) o)
event_at_state is e None is-open = refl
event_at_state is e (Some brackets) is-open = go (open_after brackets (event e))
  where
    counts : path_counts_in (paths (is ++ event e ∷ [])) ≡ counted_from (path_counts_in (paths is)) (path_begun brackets (event e))
    counts = ap path_counts_in (paths_push (Some []) is (event e) ∙ ap (λ o. paths is ++ last_paths o (event e)) is-open) ∙ counts_further (paths is) (path_begun brackets (event e))

    go : (o : Option (List Bracket)) → option_map (state_with (is ++ event e ∷ [])) o ≡ option_map (taken_by (state_with is brackets) e) o
    go None = refl
    go (Some after) = ap₂ (λ (m : PathCounts) (n : ℕ). Some (record { brackets = after; counts = m; taken = n })) counts (more_events is e)

-- an item that opens and counts nothing
other_at_state : (is : List TraceItem) (i : TraceItem) (o : Option (List Bracket)) → opened is ≡ o → ((brackets : List Bracket) → open_after brackets i ≡ Some brackets)
    → ((brackets : List Bracket) → path_begun brackets i ≡ []) → event_count (is ++ i ∷ []) ≡ event_count is
    → option_map (state_with (is ++ i ∷ [])) (open_after_all o (i ∷ [])) ≡ option_and_then (λ (s : TreeState). Some s) (option_map (state_with is) o)
other_at_state is i None is-open stays none same = refl
other_at_state is i (Some brackets) is-open stays none same =
    let ps : paths (is ++ i ∷ []) ≡ paths is =
    paths_push (Some []) is i ∙ (ap (λ o. paths is ++ last_paths o i) is-open ∙ (ap (λ l. paths is ++ l) (none brackets) ∙ append-nil (paths is))) in
    ap (option_map (state_with (is ++ i ∷ []))) (stays brackets)
    ∙ ap₂ (λ (l : List (List ℕ)) (n : ℕ). Some (record { brackets = brackets; counts = path_counts_in l; taken = n })) ps same

behind_state : (is : List TraceItem) (i : TraceItem) → option_map (state_with (is ++ i ∷ [])) (open_after_all (opened is) (i ∷ [])) ≡ option_and_then (state_behind i) (state_of is)
behind_state is (entry c) = entry_at_state is c (opened is) refl
behind_state is (event e) = event_at_state is e (opened is) refl
behind_state is (host_call f vs rs ws) = other_at_state is (host_call f vs rs ws) (opened is) refl (λ _. refl) (λ _. refl) (no_event is (host_call f vs rs ws) refl)
behind_state is (hook_call h) = other_at_state is (hook_call h) (opened is) refl (λ _. refl) (λ _. refl) (no_event is (hook_call h) refl)

none_open : (is : List TraceItem) (o : Option (List Bracket)) → option_map (state_with is) o ≡ None → o ≡ None
none_open is None h = refl
none_open is (Some brackets) h = cc

pub following : TakesMakeTree
following = record {
  fresh = refl;
  behind = λ is i. ap (option_map (state_with (is ++ i ∷ []))) (open_append (Some []) is (i ∷ [])) ∙ behind_state is i;
  bad = λ is js h. open_append (Some []) is js ∙ (ap (λ o. open_after_all o js) (none_open is (opened is) h) ∙ stays_bad js);
}
