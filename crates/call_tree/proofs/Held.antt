-- What a place holds, read off the list of places, and what changes where one is put in its stead.
use Rattle.std.proofs.Common.{◌≡◌, ◌≢◌, ℕ, zero, suc, ◌+◌, ◌-◌, ◌<◌, ◌≤◌, ◌==◌, ◌&&◌, inl, inr, List, [], ◌∷◌, ◌++◌, length, map, take, drop, Some, Result, Ok, Err, false, cond, set, slice_index, slice_index_or, refl, ap, ap₂, sym, ◌∙◌, subst, arith}
use Rattle.std.specs.Ordering.{nat_cmp}
use Rattle.std.specs.Result.{OnErr}
use Rattle.std.specs.List.Sorted.{IsStrictlySortedBy}
use Rattle.std.specs.Map.{lookup, keys_of}
use Rattle.std.specs.BTreeMap.{is_at}
use Rattle.std.proofs.Math.Seq.{map-set_same, take-append_seam}
use Rattle.std.proofs.lemmas.Bool.{cases_eq, eq-eqb}
use Rattle.std.proofs.lemmas.Bool.Decides.{nat_tests}
use Rattle.std.proofs.lemmas.List.{get_or-map, map-set, map-append, get_or-set_same, get_or-set_other, length-map}
use Rattle.call_tree.specs.declared.table.Place.{Place}
use Rattle.call_tree.specs.Table.{Link, link, is_link, links_of, link_at, depths_of, counts_at, nexts, nexts_of, place_by, depth_from, paths_of, tallied, IsNodeTable}
use Rattle.call_tree.proofs.Tallies.{as_many, length_tallied, node_at}

pub on_err : {T E P : Type 0} (r : Result T E) → P → OnErr r P
on_err (Ok x) p = tt
on_err (Err e) p = p

abbrev next_lists : List Place → List (List (ℕ × ℕ))
next_lists places = map (λ (p : Place). p.next.entries) places

-- ---- read

module _ (places : List Place) (d : Place) where
  pub link_held : (i : ℕ) → i < length places → link (slice_index_or places i d).from (slice_index_or places i d).func ≡ link_at (links_of places) i
  link_held i within = sym (get_or-map (λ (p : Place). link p.from p.func) places i d _ within)

  pub depth_held : (i : ℕ) → i < length places → (slice_index_or places i d).depth ≡ slice_index (depths_of places) i
  depth_held i within = sym (get_or-map (λ (p : Place). p.depth) places i d _ within)

  pub count_held : (i : ℕ) → i < length places → (slice_index_or places i d).count ≡ slice_index (counts_at places) i
  count_held i within = sym (get_or-map (λ (p : Place). p.count) places i d _ within)

  pub depth_behind : (place : ℕ) → place ≢ 0 → place ≤ length places → (slice_index_or places (place - 1) d).depth + 1 ≡ depth_from (depths_of places) place
  depth_behind zero some within = absurd (some refl)
  depth_behind (suc i) some within =
      let e : suc i - 1 ≡ i = omega arith in
      ap (λ k. (slice_index_or places k d).depth + 1) e ∙ ap (λ (n : ℕ). n + 1) (depth_held i (omega arith))

  pub next_held : (roots : List (ℕ × ℕ)) (place : ℕ) → place ≢ 0 → place ≤ length places → (slice_index_or places (place - 1) d).next.entries ≡ nexts_of roots places place
  next_held roots zero some within = absurd (some refl)
  next_held roots (suc i) some within =
      let e : suc i - 1 ≡ i = omega arith in
      ap (λ k. (slice_index_or places k d).next.entries) e ∙ sym (get_or-map (λ (p : Place). p.next.entries) places i d [] (omega arith))

  pub node_held : (place : ℕ) → place ≢ 0 → place ≤ length places
      → record { depth = (slice_index_or places (place - 1) d).depth; func = (slice_index_or places (place - 1) d).func; count = (slice_index_or places (place - 1) d).count }
      ≡ node_at (links_of places) (depths_of places) (counts_at places) place
  node_held zero some within = absurd (some refl)
  node_held (suc i) some within =
      let e : suc i - 1 ≡ i = omega arith in
      let p = slice_index_or places i d in
      ap (λ k. let q = slice_index_or places k d in record { depth = q.depth; func = q.func; count = q.count }) e
      ∙ (ap₂ (λ (h : ℕ) (f : ℕ). record { depth = h; func = f; count = p.count }) (depth_held i (omega arith)) (ap (λ (l : Link). l.func) (link_held i (omega arith)))
      ∙ ap (λ (n : ℕ). record { depth = slice_index (depths_of places) i; func = (link_at (links_of places) i).func; count = n }) (count_held i (omega arith)))

-- ---- a place in the stead of another

module _ (places : List Place) (i : ℕ) (d after : Place) where
  pub links_stay : link after.from after.func ≡ link (slice_index_or places i d).from (slice_index_or places i d).func → links_of (set places i after) ≡ links_of places
  links_stay same = map-set_same (λ (p : Place). link p.from p.func) places i after d same

  pub depths_stay : after.depth ≡ (slice_index_or places i d).depth → depths_of (set places i after) ≡ depths_of places
  depths_stay same = map-set_same (λ (p : Place). p.depth) places i after d same

  pub counts_stay : after.count ≡ (slice_index_or places i d).count → counts_at (set places i after) ≡ counts_at places
  counts_stay same = map-set_same (λ (p : Place). p.count) places i after d same

  pub nexts_stay : (roots : List (ℕ × ℕ)) → after.next.entries ≡ (slice_index_or places i d).next.entries → nexts_of roots (set places i after) ≡ nexts_of roots places
  nexts_stay roots same = ap (nexts roots) (map-set_same (λ (p : Place). p.next.entries) places i after d same)

-- the count at a place is one more, and no path is another
pub counted_view : (places : List Place) (i : ℕ) (now : Place) → now ≡ slice_index_or places i now
    → tallied (paths_of (links_of (set places i (record now { count = now.count + 1 })))) (counts_at (set places i (record now { count = now.count + 1 })))
    ≡ tallied (paths_of (links_of places)) (set (counts_at places) i (now.count + 1))
counted_view places i now read =
    ap₂ (λ l n. tallied (paths_of l) n) (links_stay places i now _ (ap (λ (p : Place). link p.from p.func) read)) (map-set (λ (p : Place). p.count) places i _)

pub same_table : (ls ks : List Link) (ds es : List ℕ) (next more : ℕ → List (ℕ × ℕ)) → ks ≡ ls → es ≡ ds → more ≡ next → IsNodeTable ls ds next → IsNodeTable ks es more
same_table ls ks ds es next more link_same depth_same next_same table =
    subst (λ l. IsNodeTable l es more) (sym link_same) (subst (λ d. IsNodeTable ls d more) (sym depth_same) (subst (IsNodeTable ls ds) (sym next_same) table))

-- ---- as many paths as places

module _ (roots : List (ℕ × ℕ)) (places : List Place) (table : IsNodeTable (links_of places) (depths_of places) (nexts_of roots places)) where
  pub counts_sized : length (counts_at places) ≡ length (links_of places)
  counts_sized = length-map places (λ (p : Place). p.count) ∙ sym (length-map places (λ (p : Place). link p.from p.func))

  pub links_sized : length (links_of places) ≡ length places
  links_sized = length-map places (λ (p : Place). link p.from p.func)

  pub view_sized : length (tallied (paths_of (links_of places)) (counts_at places)) ≡ length places
  view_sized =
      let many = as_many (links_of places) (depths_of places) (nexts_of roots places) table (counts_at places) counts_sized in
      length_tallied (paths_of (links_of places)) (counts_at places) (counts_sized ∙ sym many) ∙ (many ∙ links_sized)

-- what a list is once a slice of all of it was written
pub written : {A : Type 0} (n : ℕ) (new old : List A) → length new ≡ n → take n (new ++ drop (length new) old) ≡ new
written n new old same = ap (λ k. take k (new ++ drop (length new) old)) (sym same) ∙ take-append_seam new (drop (length new) old)

-- ---- a place more

none_longer : (ls : List (List (ℕ × ℕ))) (i : ℕ) → slice_index_or (ls ++ [] ∷ []) i [] ≡ slice_index_or ls i []
none_longer [] zero = refl
none_longer [] (suc i) = refl
none_longer (l ∷ ls) zero = refl
none_longer (l ∷ ls) (suc i) = none_longer ls i

-- nothing leads on from it
pub nexts_longer : (roots : List (ℕ × ℕ)) (places : List Place) (p : Place) → p.next.entries ≡ [] → (place : ℕ) → nexts_of roots (places ++ p ∷ []) place ≡ nexts_of roots places place
nexts_longer roots places p none zero = refl
nexts_longer roots places p none (suc i) =
    ap (λ l. slice_index_or l i []) (map-append (λ (q : Place). q.next.entries) places (p ∷ []) ∙ ap (λ l. next_lists places ++ l ∷ []) none)
    ∙ none_longer (next_lists places) i

-- ---- a function that leads from a place to another

pub roots_ordered : (roots fresh : List (ℕ × ℕ)) (places : List Place) → IsStrictlySortedBy nat_cmp (keys_of fresh)
    → ((p : ℕ) → IsStrictlySortedBy nat_cmp (keys_of (nexts_of roots places p))) → (p : ℕ) → IsStrictlySortedBy nat_cmp (keys_of (nexts_of fresh places p))
roots_ordered roots fresh places sorted all zero = sorted
roots_ordered roots fresh places sorted all (suc i) = all (suc i)

module _ (roots : List (ℕ × ℕ)) (places : List Place) (after : Place) where
  -- those of the place, and those of the others
  next_put : (place : ℕ) → place ≢ 0 → place ≤ length places → nexts_of roots (set places (place - 1) after) place ≡ after.next.entries
  next_put zero some within = absurd (some refl)
  next_put (suc i) some within =
      let e : suc i - 1 ≡ i = omega arith in
      ap (λ k. slice_index_or (next_lists (set places k after)) i []) e
      ∙ (ap (λ l. slice_index_or l i []) (map-set (λ (p : Place). p.next.entries) places i after)
      ∙ get_or-set_same (next_lists places) i after.next.entries [] (omega (arith, length-map places (λ (p : Place). p.next.entries))))

  next_other : (place p : ℕ) → place ≢ 0 → p ≢ place → nexts_of roots (set places (place - 1) after) p ≡ nexts_of roots places p
  next_other place zero some apart = refl
  next_other place (suc i) some apart =
      ap (λ l. slice_index_or l i []) (map-set (λ (p : Place). p.next.entries) places (place - 1) after)
      ∙ get_or-set_other (next_lists places) (place - 1) i after.next.entries [] (omega arith)

  pub place_ordered : (place : ℕ) → place ≢ 0 → place ≤ length places → IsStrictlySortedBy nat_cmp (keys_of after.next.entries)
      → ((p : ℕ) → IsStrictlySortedBy nat_cmp (keys_of (nexts_of roots places p))) → (p : ℕ) → IsStrictlySortedBy nat_cmp (keys_of (nexts_of roots (set places (place - 1) after) p))
  place_ordered place some within sorted all p = elim (cases_eq p place) [
    | inl same ↦ subst (λ l. IsStrictlySortedBy nat_cmp (keys_of l)) (sym (ap (nexts_of roots (set places (place - 1) after)) same ∙ next_put place some within)) sorted
    | inr apart ↦ subst (λ l. IsStrictlySortedBy nat_cmp (keys_of l)) (sym (next_other place p some apart)) (all p)
  ]

  pub place_put : (place func fresh : ℕ) → place ≢ 0 → place ≤ length places
      → ((f : ℕ) → lookup (is_at (nat_cmp f)) after.next.entries ≡ cond (is_at (nat_cmp func) f) (Some fresh) (lookup (is_at (nat_cmp f)) (nexts_of roots places place)))
      → (l : Link) → place_by (nexts_of roots (set places (place - 1) after)) l ≡ cond (is_link (link place func) l) (Some fresh) (place_by (nexts_of roots places) l)
  place_put place func fresh some within put l = elim (cases_eq l.from place) [
    | inl same ↦
        ap (λ p. lookup (is_at (nat_cmp l.func)) (nexts_of roots (set places (place - 1) after) p)) same
        ∙ (ap (lookup (is_at (nat_cmp l.func))) (next_put place some within)
        ∙ (put l.func
        ∙ (ap (λ b. cond b (Some fresh) (lookup (is_at (nat_cmp l.func)) (nexts_of roots places place))) (same_test func l.func)
        ∙ (ap (λ b. cond (b && (func == l.func)) (Some fresh) (lookup (is_at (nat_cmp l.func)) (nexts_of roots places place))) (sym (eq-eqb place l.from (sym same)))
        ∙ ap (λ p. cond (is_link (link place func) l) (Some fresh) (lookup (is_at (nat_cmp l.func)) (nexts_of roots places p))) (sym same)))))
    | inr apart ↦
        ap (lookup (is_at (nat_cmp l.func))) (next_other place l.from some apart)
        ∙ ap (λ b. cond (b && (func == l.func)) (Some fresh) (place_by (nexts_of roots places) l)) (sym (elsewhere l.from place apart))
  ]
    where
      same_test : (a b : ℕ) → is_at (nat_cmp a) b ≡ (a == b)
      same_test a b = grind (arith, nat_tests)

      elsewhere : (p q : ℕ) → p ≢ q → (q == p) ≡ false
      elsewhere p q h = grind (arith, nat_tests)
