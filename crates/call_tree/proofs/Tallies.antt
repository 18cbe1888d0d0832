-- Paths with their counts: by their places, one more counted, and in order.
use Rattle.std.proofs.Common.{◌≡◌, ◌≢◌, ℕ, zero, suc, ◌+◌, ◌-◌, ◌<◌, ◌≤◌, inl, inr, List, [], ◌∷◌, ◌++◌, length, map, set, slice_index, slice_index_or, Bool, true, false, cond, ◌&&◌, Option, Some, None, refl, ap, ap₂, sym, ◌∙◌, subst, arith}
use Rattle.std.proofs.Math.Dec.{T}
use Rattle.std.specs.declared.cmp.Ordering.TheVariants.{Less}
use Rattle.std.specs.Ordering.{nat_cmp, is_lt, eq_by_cmp}
use Rattle.std.specs.Cmp.Lexicographic.{slice_cmp}
use Rattle.std.specs.List.{AllByRecursion}
use Rattle.std.specs.FinMap.{entries, entries_sorted, get-entries, get-from_entries, find, is_sorted}
use Rattle.std.specs.FinMap.Entries.{below_all, same_entries}
use Rattle.std.proofs.lemmas.Cmp.{nat_list_cmp_total}
use Rattle.std.proofs.lemmas.Map.Lookups.{exact_bytes}
use Rattle.std.proofs.lemmas.Option.{same_Some, none-some}
use Rattle.std.proofs.lemmas.List.{length-append, get_or_at}
use Rattle.module_ast.proofs.Indexed.{IsIn, each_in}
use Rattle.call_tree.specs.declared.Node.{Node}
use Rattle.call_tree.specs.Counts.{with_entry, entry_at, path_at, node_of, nodes_of, path_counts}
use Rattle.call_tree.specs.Table.{Link, link_at, listed, paths_of, tallied, kids, IsNodeTable}
use Rattle.call_tree.proofs.PathOrder.{same_path, path_itself}
use Rattle.call_tree.proofs.Preorder.{Rises, behind, behind_rises, behind_within, complete, IsTree}
use Rattle.call_tree.proofs.Grown.{listed_step, paths_differ, length_grown}
use Rattle.call_tree.proofs.Trees.{table_tree}

-- ---- by places

pub length_tallied : (ps : List (List ℕ)) (ns : List ℕ) → length ns ≡ length ps → length (tallied ps ns) ≡ length ps
length_tallied [] [] h = refl
length_tallied [] (n ∷ ns) h = absurd (omega arith)
length_tallied (p ∷ ps) [] h = absurd (omega arith)
length_tallied (p ∷ ps) (n ∷ ns) h = ap suc (length_tallied ps ns (omega arith))

pub entry_tallied : (ps : List (List ℕ)) (ns : List ℕ) (i : ℕ) → length ns ≡ length ps → entry_at (tallied ps ns) i ≡ (slice_index_or ps i [], slice_index ns i)
entry_tallied [] [] i h = refl
entry_tallied [] (n ∷ ns) i h = absurd (omega arith)
entry_tallied (p ∷ ps) [] i h = absurd (omega arith)
entry_tallied (p ∷ ps) (n ∷ ns) zero h = refl
entry_tallied (p ∷ ps) (n ∷ ns) (suc i) h = entry_tallied ps ns i (omega arith)

pub path_tallied : (ps : List (List ℕ)) (ns : List ℕ) (place : ℕ) → length ns ≡ length ps → path_at (tallied ps ns) place ≡ listed ps place
path_tallied ps ns zero h = refl
path_tallied ps ns (suc i) h = ap (λ (e : List ℕ × ℕ). e.0) (entry_tallied ps ns i h)

-- ---- one more

other_path : (p q : List ℕ) → q ≢ p → eq_by_cmp (slice_cmp nat_cmp) p q ≡ false
other_path p q apart = go (eq_by_cmp (slice_cmp nat_cmp) p q) refl
  where
    go : (b : Bool) → eq_by_cmp (slice_cmp nat_cmp) p q ≡ b → b ≡ false
    go true is = absurd (apart (sym (same_path p q is)))
    go false is = refl

-- of the path at a place, where no place before it has that path
pub counted_again : (path : List ℕ) (x : ℕ) (ps : List (List ℕ)) (ns : List ℕ) (j : ℕ) → length ns ≡ length ps → j < length ps → listed ps (suc j) ≡ path → slice_index ns j ≡ x
    → ((k : ℕ) → k < j → listed ps (suc k) ≢ path) → tallied ps (set ns j (x + 1)) ≡ with_entry path (tallied ps ns)
counted_again path x [] ns j same within here count first = absurd (omega arith)
counted_again path x (p ∷ ps) [] j same within here count first = absurd (omega arith)
counted_again path x (p ∷ ps) (n ∷ ns) zero same within here count first =
    ap (λ m. (p, m + 1) ∷ tallied ps ns) (sym count)
    ∙ sym (ap (λ b. cond b ((p, n + 1) ∷ tallied ps ns) ((p, n) ∷ with_entry path (tallied ps ns)))
    (ap (λ l. eq_by_cmp (slice_cmp nat_cmp) path l) here ∙ path_itself path))
counted_again path x (p ∷ ps) (n ∷ ns) (suc j) same within here count first =
    ap (λ l. (p, n) ∷ l) (counted_again path x ps ns j (omega arith) (omega arith) here count (λ k h. first (suc k) (omega arith)))
    ∙ sym (ap (λ b. cond b ((p, n + 1) ∷ tallied ps ns) ((p, n) ∷ with_entry path (tallied ps ns))) (other_path path p (first 0 (omega arith))))

-- of a path that no place has
pub counted_first : (path : List ℕ) (ps : List (List ℕ)) (ns : List ℕ) → length ns ≡ length ps → ((k : ℕ) → k < length ps → listed ps (suc k) ≢ path)
    → tallied (ps ++ path ∷ []) (ns ++ 1 ∷ []) ≡ with_entry path (tallied ps ns)
counted_first path [] [] same apart = refl
counted_first path [] (n ∷ ns) same apart = absurd (omega arith)
counted_first path (p ∷ ps) [] same apart = absurd (omega arith)
counted_first path (p ∷ ps) (n ∷ ns) same apart =
    ap (λ l. (p, n) ∷ l) (counted_first path ps ns (omega arith) (λ k h. apart (suc k) (omega arith)))
    ∙ sym (ap (λ b. cond b ((p, n + 1) ∷ tallied ps ns) ((p, n) ∷ with_entry path (tallied ps ns))) (other_path path p (apart 0 (omega arith))))

-- ---- what is found under a path

abbrev number_at : List ℕ → ℕ → ℕ
number_at ns zero = 0
number_at ns (suc i) = slice_index ns i

abbrev pub pair_at : List (List ℕ) → List ℕ → (place : ℕ) → List ℕ × ℕ
pair_at ps ns i = (listed ps i, number_at ns i)

tallied_found : (q : List ℕ) (x : ℕ) (ps : List (List ℕ)) (ns : List ℕ) → find (slice_cmp nat_cmp) q (tallied ps ns) ≡ Some x
    → (j : ℕ) × (j < length ps) × (listed ps (suc j) ≡ q) × (slice_index ns j ≡ x)
tallied_found q x [] ns h = absurd (none-some x h)
tallied_found q x (p ∷ ps) [] h = absurd (none-some x h)
tallied_found q x (p ∷ ps) (n ∷ ns) h = go (eq_by_cmp (slice_cmp nat_cmp) q p) refl h (tallied_found q x ps ns)
  where
    go : (b : Bool) → eq_by_cmp (slice_cmp nat_cmp) q p ≡ b → cond b (Some n) (find (slice_cmp nat_cmp) q (tallied ps ns)) ≡ Some x
        → (find (slice_cmp nat_cmp) q (tallied ps ns) ≡ Some x → (j : ℕ) × (j < length ps) × (listed ps (suc j) ≡ q) × (slice_index ns j ≡ x))
        → (j : ℕ) × (j < suc (length ps)) × (listed (p ∷ ps) (suc j) ≡ q) × (slice_index (n ∷ ns) j ≡ x)
    go true is h rest = (0, omega arith, sym (same_path q p is), same_Some n x h)
    go false is h rest = let w = rest h in (suc w.0, omega (arith, w.1), w.2, w.3)

tallied_has : (q : List ℕ) (ps : List (List ℕ)) (ns : List ℕ) (j : ℕ) → length ns ≡ length ps → j < length ps → listed ps (suc j) ≡ q
    → find (slice_cmp nat_cmp) q (tallied ps ns) ≡ None → ⊥
tallied_has q [] ns j same within here h = absurd (omega arith)
tallied_has q (p ∷ ps) [] j same within here h = absurd (omega arith)
tallied_has q (p ∷ ps) (n ∷ ns) zero same within here h =
    none-some n (sym h ∙ ap (λ b. cond b (Some n) (find (slice_cmp nat_cmp) q (tallied ps ns))) (ap (λ l. eq_by_cmp (slice_cmp nat_cmp) q l) here ∙ path_itself q))
tallied_has q (p ∷ ps) (n ∷ ns) (suc j) same within here h = go (eq_by_cmp (slice_cmp nat_cmp) q p) h (tallied_has q ps ns j (omega arith) (omega arith) here)
  where
    go : (b : Bool) → cond b (Some n) (find (slice_cmp nat_cmp) q (tallied ps ns)) ≡ None → (find (slice_cmp nat_cmp) q (tallied ps ns) ≡ None → ⊥) → ⊥
    go true h rest = none-some n (sym h)
    go false h rest = rest h

module _ (ps : List (List ℕ)) (ns : List ℕ) where
  pairs_found : (q : List ℕ) (x : ℕ) (is : List ℕ) → find (slice_cmp nat_cmp) q (map (pair_at ps ns) is) ≡ Some x → (i : ℕ) × IsIn i is × (listed ps i ≡ q) × (number_at ns i ≡ x)
  pairs_found q x [] h = absurd (none-some x h)
  pairs_found q x (i ∷ is) h = go (eq_by_cmp (slice_cmp nat_cmp) q (listed ps i)) refl h (pairs_found q x is)
    where
      go : (b : Bool) → eq_by_cmp (slice_cmp nat_cmp) q (listed ps i) ≡ b → cond b (Some (number_at ns i)) (find (slice_cmp nat_cmp) q (map (pair_at ps ns) is)) ≡ Some x
          → (find (slice_cmp nat_cmp) q (map (pair_at ps ns) is) ≡ Some x → (j : ℕ) × IsIn j is × (listed ps j ≡ q) × (number_at ns j ≡ x))
          → (j : ℕ) × IsIn j (i ∷ is) × (listed ps j ≡ q) × (number_at ns j ≡ x)
      go true same h rest = (i, inl refl, sym (same_path q (listed ps i) same), same_Some (number_at ns i) x h)
      go false same h rest = let w = rest h in (w.0, inr w.1, w.2, w.3)

  pairs_have : (q : List ℕ) (i : ℕ) (is : List ℕ) → IsIn i is → listed ps i ≡ q → find (slice_cmp nat_cmp) q (map (pair_at ps ns) is) ≡ None → ⊥
  pairs_have q i [] among here h = absurd among
  pairs_have q i (j ∷ is) (inl same) here h =
      none-some (number_at ns j) (sym h ∙ ap (λ b. cond b (Some (number_at ns j)) (find (slice_cmp nat_cmp) q (map (pair_at ps ns) is)))
      (ap (λ l. eq_by_cmp (slice_cmp nat_cmp) q l) (ap (listed ps) (sym same) ∙ here) ∙ path_itself q))
  pairs_have q i (j ∷ is) (inr among) here h = go (eq_by_cmp (slice_cmp nat_cmp) q (listed ps j)) h (pairs_have q i is among here)
    where
      go : (b : Bool) → cond b (Some (number_at ns j)) (find (slice_cmp nat_cmp) q (map (pair_at ps ns) is)) ≡ None
          → (find (slice_cmp nat_cmp) q (map (pair_at ps ns) is) ≡ None → ⊥) → ⊥
      go true h rest = none-some (number_at ns j) (sym h)
      go false h rest = rest h

  -- ---- in order

  both_true : (a b : Bool) → T a → T b → T (a && b)
  both_true true b h k = k
  both_true false b h k = h

  before_all : (q : List ℕ) (is : List ℕ) → AllByRecursion (λ j. slice_cmp nat_cmp q (listed ps j) ≡ Less) is → T (below_all (slice_cmp nat_cmp) q (map (pair_at ps ns) is))
  before_all q [] all = tt
  before_all q (i ∷ is) all =
      both_true (is_lt (slice_cmp nat_cmp q (listed ps i))) (below_all (slice_cmp nat_cmp) q (map (pair_at ps ns) is))
      (subst (λ o. T (is_lt o)) (sym all.0) tt) (before_all q is all.1)

  pairs_sorted : (is : List ℕ) → Rises (listed ps) is → T (is_sorted (slice_cmp nat_cmp) (map (pair_at ps ns) is))
  pairs_sorted [] rises = tt
  pairs_sorted (i ∷ is) rises =
      both_true (below_all (slice_cmp nat_cmp) (listed ps i) (map (pair_at ps ns) is)) (is_sorted (slice_cmp nat_cmp) (map (pair_at ps ns) is))
      (before_all (listed ps i) is rises.0) (pairs_sorted is rises.1)

-- the node at a place
abbrev pub node_at : List Link → (depths counts : List ℕ) → (place : ℕ) → Node
node_at links depths counts zero = record { depth = 0; func = 0; count = 0 }
node_at links depths counts (suc i) = record { depth = slice_index depths i; func = (link_at links i).func; count = slice_index counts i }

module _ (links : List Link) (depths : List ℕ) (next : ℕ → List (ℕ × ℕ)) (table : IsNodeTable links depths next) (counts : List ℕ) (sized : length counts ≡ length links) where
  tree : IsTree (length links) (listed (paths_of links)) (kids next)
  tree = table_tree links depths next table

  pub as_many : length (paths_of links) ≡ length links
  as_many = length_grown [] links ∙ omega arith

  pub same_length : length counts ≡ length (paths_of links)
  same_length = sized ∙ sym as_many

  found_same : (q : List ℕ) (o p : Option ℕ) → find (slice_cmp nat_cmp) q (tallied (paths_of links) counts) ≡ o
      → find (slice_cmp nat_cmp) q (map (pair_at (paths_of links) counts) (behind (kids next) (length links))) ≡ p → o ≡ p
  found_same q None None h k = refl
  found_same q (Some x) None h k =
      let w = tallied_found q x (paths_of links) counts h in
      absurd (pairs_have (paths_of links) counts q (suc w.0) (behind (kids next) (length links))
      (complete (length links) (listed (paths_of links)) (kids next) tree (suc w.0) (omega arith) (omega (arith, w.1, as_many))) w.2 k)
  found_same q None (Some y) h k =
      let w = pairs_found (paths_of links) counts q y (behind (kids next) (length links)) k in
      let u = each_in (λ c. (0 < c) × (c ≤ length links)) (behind (kids next) (length links)) w.0 w.1 (behind_within (length links) (listed (paths_of links)) (kids next) tree) in
      let e : w.0 ≡ suc (w.0 - 1) = omega (arith, u.0) in
      absurd (tallied_has q (paths_of links) counts (w.0 - 1) same_length (omega (arith, u.0, u.1, as_many))
      (ap (listed (paths_of links)) (sym e) ∙ w.2) h)
  found_same q (Some x) (Some y) h k =
      let v = tallied_found q x (paths_of links) counts h in
      let w = pairs_found (paths_of links) counts q y (behind (kids next) (length links)) k in
      let u = each_in (λ c. (0 < c) × (c ≤ length links)) (behind (kids next) (length links)) w.0 w.1 (behind_within (length links) (listed (paths_of links)) (kids next) tree) in
      let e : w.0 ≡ suc v.0 = paths_differ links depths next table w.0 (suc v.0) u.1 (omega (arith, v.1, as_many)) (w.2 ∙ sym v.2) in
      ap Some (sym v.3 ∙ (ap (number_at counts) (sym e) ∙ w.3))

  in_order : entries (path_counts (tallied (paths_of links) counts)) ≡ map (pair_at (paths_of links) counts) (behind (kids next) (length links))
  in_order =
      let m = path_counts (tallied (paths_of links) counts) in
      same_entries (slice_cmp nat_cmp) nat_list_cmp_total exact_bytes (entries m) (map (pair_at (paths_of links) counts) (behind (kids next) (length links)))
      (entries_sorted m) (pairs_sorted (paths_of links) counts (behind (kids next) (length links)) (behind_rises (length links) (listed (paths_of links)) (kids next) tree))
      (λ q. sym (get-entries m q) ∙ (get-from_entries nat_list_cmp_total (tallied (paths_of links) counts) q ∙ found_same q _ _ refl refl))

  -- the node at a place is that of its path
  node_there : (i : ℕ) → 0 < i → i ≤ length links → node_of (pair_at (paths_of links) counts i) ≡ node_at links depths counts i
  node_there zero some within = absurd (omega arith)
  node_there (suc i) some within =
      let l = link_at links i in
      let p = listed (paths_of links) l.from in
      let here : listed (paths_of links) (suc i) ≡ p ++ l.func ∷ [] = listed_step links depths next table i (omega arith) in
      let long : length (p ++ l.func ∷ []) - 1 ≡ length p = omega (arith, length-append p (l.func ∷ [])) in
      let deep : length (p ++ l.func ∷ []) - 1 ≡ slice_index depths i = long ∙ sym (table.depth i (omega arith)) in
      let last : slice_index (p ++ l.func ∷ []) (length (p ++ l.func ∷ []) - 1) ≡ l.func =
      ap (slice_index (p ++ l.func ∷ [])) long ∙ get_or_at p l.func [] 0 (length p) refl in
      ap (λ q. node_of (q, slice_index counts i)) here
      ∙ ap₂ (λ (d : ℕ) (f : ℕ). record { depth = d; func = f; count = slice_index counts i }) deep last

  nodes_there : (is : List ℕ) → AllByRecursion (λ c. (0 < c) × (c ≤ length links)) is → map node_of (map (pair_at (paths_of links) counts) is) ≡ map (node_at links depths counts) is
  nodes_there [] all = refl
  nodes_there (i ∷ is) all = ap₂ (λ n ns. n ∷ ns) (node_there i all.0.0 all.0.1) (nodes_there is all.1)

  -- the nodes of all places, a place before those behind it, are those of the paths in order
  pub nodes_in_order : map (node_at links depths counts) (behind (kids next) (length links)) ≡ nodes_of (path_counts (tallied (paths_of links) counts))
  nodes_in_order =
      sym (ap (map node_of) in_order
      ∙ nodes_there (behind (kids next) (length links)) (behind_within (length links) (listed (paths_of links)) (kids next) tree))
