-- A path that is counted in a table: once more at its place, or first at a new one.
use Rattle.std.proofs.Common.{◌≡◌, ◌≢◌, ℕ, zero, suc, ◌+◌, ◌-◌, ◌<◌, ◌≤◌, ◌==◌, ◌&&◌, ◌⊎◌, inl, inr, List, [], ◌∷◌, ◌++◌, length, Some, None, Bool, true, false, cond, slice_index, set, refl, ap, ap₂, sym, ◌∙◌, subst, arith}
use Rattle.std.specs.Ordering.{nat_cmp}
use Rattle.std.specs.List.Sorted.{IsStrictlySortedBy}
use Rattle.std.specs.Map.{keys_of}
use Rattle.std.proofs.lemmas.Option.{same_Some}
use Rattle.std.proofs.lemmas.Bool.{cases_eq, and_parts, eqb-true, eq-eqb}
use Rattle.std.proofs.lemmas.List.{length-append, get_or_append_left, get_or_at, same_from_push}
use Rattle.call_tree.specs.Counts.{path_at, with_entry}
use Rattle.call_tree.specs.Table.{Link, link, is_link, link_at, place_by, depth_from, listed, paths_of, tallied, IsNodeTable, IsChildBy}
use Rattle.call_tree.proofs.Grown.{listed_step, paths_differ, grown_push, listed_left, listed_next}
use Rattle.call_tree.proofs.Tallies.{as_many, same_length, length_tallied, path_tallied, counted_again, counted_first}

before_or_last : (i n : ℕ) → i ≤ n → (i < n) ⊎ (i ≡ n)
before_or_last i n h = elim (cases_eq i n) [ inl e ↦ inr e | inr ne ↦ inl (omega arith) ]

same_link : (a b : Link) → is_link a b ≡ true → a ≡ b
same_link a b h = let w = and_parts (a.from == b.from) (a.func == b.func) h in ap₂ link (eqb-true a.from b.from w.0) (eqb-true a.func b.func w.1)

link_itself : (l : Link) → is_link l l ≡ true
link_itself l = ap (λ b. b && (l.func == l.func)) (eq-eqb l.from l.from refl) ∙ eq-eqb l.func l.func refl

-- the path at a place goes on from that of the place that its link names
pub path_behind : (links : List Link) (depths : List ℕ) (next : ℕ → List (ℕ × ℕ)) (table : IsNodeTable links depths next) (counts : List ℕ) (sized : length counts ≡ length links)
    (place : ℕ) → 0 < place → place ≤ length links
    → path_at (tallied (paths_of links) counts) place ≡ path_at (tallied (paths_of links) counts) (link_at links (place - 1)).from ++ (link_at links (place - 1)).func ∷ []
path_behind links depths next table counts sized zero some within = absurd (omega arith)
path_behind links depths next table counts sized (suc i) some within =
    let e : i ≡ suc i - 1 = omega arith in
    let same = same_length links depths next table counts sized in
    path_tallied (paths_of links) counts (suc i) same
    ∙ (listed_step links depths next table i (omega arith)
    ∙ (ap (λ p. p ++ (link_at links i).func ∷ []) (sym (path_tallied (paths_of links) counts (link_at links i).from same))
    ∙ ap (λ k. path_at (tallied (paths_of links) counts) (link_at links k).from ++ (link_at links k).func ∷ []) e))

module _ (links : List Link) (depths : List ℕ) (next : ℕ → List (ℕ × ℕ)) (table : IsNodeTable links depths next) (counts : List ℕ) (sized : length counts ≡ length links) (place func : ℕ) where
  path_from : path_at (tallied (paths_of links) counts) place ++ func ∷ [] ≡ listed (paths_of links) place ++ func ∷ []
  path_from = ap (λ p. p ++ func ∷ []) (path_tallied (paths_of links) counts place (same_length links depths next table counts sized))

  -- ---- once more

  path_led : (found : ℕ) → IsChildBy links (link place func) found → listed (paths_of links) found ≡ listed (paths_of links) place ++ func ∷ []
  path_led found w =
      ap (listed (paths_of links)) w.1 ∙ (listed_step links depths next table w.0 w.2 ∙ ap (λ (l : Link). listed (paths_of links) l.from ++ l.func ∷ []) w.3)

  pub once_more : (found x : ℕ) → IsChildBy links (link place func) found → slice_index counts (found - 1) ≡ x
      → tallied (paths_of links) (set counts (found - 1) (x + 1)) ≡ with_entry (path_at (tallied (paths_of links) counts) place ++ func ∷ []) (tallied (paths_of links) counts)
  once_more found x w read =
      let many : length (paths_of links) ≡ length links = as_many links depths next table counts sized in
      let e : found ≡ suc (found - 1) = omega (arith, w.1) in
      let here : listed (paths_of links) (suc (found - 1)) ≡ listed (paths_of links) place ++ func ∷ [] = ap (listed (paths_of links)) (sym e) ∙ path_led found w in
      counted_again (listed (paths_of links) place ++ func ∷ []) x (paths_of links) counts (found - 1) (same_length links depths next table counts sized) (omega (arith, w.1, w.2, many)) here read
      (λ k less same. absurd (omega (arith, less, paths_differ links depths next table (suc k) (suc (found - 1)) (omega (arith, less, w.1, w.2)) (omega (arith, w.1, w.2)) (same ∙ sym here))))
      ∙ ap (λ p. with_entry p (tallied (paths_of links) counts)) (sym path_from)

  pub stands_there : (found : ℕ) (more : List ℕ) → IsChildBy links (link place func) found → length more ≡ length counts
      → (found ≤ length (tallied (paths_of links) more)) × (path_at (tallied (paths_of links) more) found ≡ path_at (tallied (paths_of links) counts) place ++ func ∷ [])
  stands_there found more w same =
      let long : length more ≡ length (paths_of links) = same ∙ same_length links depths next table counts sized in (
        omega (arith, w.1, w.2, length_tallied (paths_of links) more long, as_many links depths next table counts sized),
        path_tallied (paths_of links) more found long ∙ (path_led found w ∙ sym path_from),
      )

  -- ---- first

  module _ (known : place ≤ length links) (none : place_by next (link place func) ≡ None) where
    grown_paths : paths_of (links ++ link place func ∷ []) ≡ paths_of links ++ (listed (paths_of links) place ++ func ∷ []) ∷ []
    grown_paths = grown_push [] links (link place func)

    no_place : (k : ℕ) → k < length links → link_at links k ≢ link place func
    no_place k less same = apart (sym none ∙ (ap (place_by next) (sym same) ∙ table.found k less))
      where
        apart : None ≡ Some (suc k) → ⊥
        apart h = cc

    no_path : (k : ℕ) → k < length (paths_of links) → listed (paths_of links) (suc k) ≢ listed (paths_of links) place ++ func ∷ []
    no_path k less same =
        let small : k < length links = omega (arith, less, as_many links depths next table counts sized) in
        let l = link_at links k in
        let ends = same_from_push (listed (paths_of links) l.from) (listed (paths_of links) place) l.func func (sym (listed_step links depths next table k small) ∙ same) in
        let places : l.from ≡ place = paths_differ links depths next table l.from place (omega (arith, table.back k small)) known ends.0 in
        no_place k small (ap₂ link places ends.1)

    pub first_time : tallied (paths_of (links ++ link place func ∷ [])) (counts ++ 1 ∷ [])
        ≡ with_entry (path_at (tallied (paths_of links) counts) place ++ func ∷ []) (tallied (paths_of links) counts)
    first_time =
        ap (λ ps. tallied ps (counts ++ 1 ∷ [])) grown_paths
        ∙ (counted_first (listed (paths_of links) place ++ func ∷ []) (paths_of links) counts (same_length links depths next table counts sized) no_path
        ∙ ap (λ p. with_entry p (tallied (paths_of links) counts)) (sym path_from))

    pub stands_last : (suc (length links) ≤ length (tallied (paths_of (links ++ link place func ∷ [])) (counts ++ 1 ∷ [])))
        × (path_at (tallied (paths_of (links ++ link place func ∷ [])) (counts ++ 1 ∷ [])) (suc (length links))
        ≡ path_at (tallied (paths_of links) counts) place ++ func ∷ [])
    stands_last =
        let p = listed (paths_of links) place ++ func ∷ [] in
        let many : length (paths_of links) ≡ length links = as_many links depths next table counts sized in
        let long : length (counts ++ 1 ∷ []) ≡ length (paths_of links ++ p ∷ []) =
        omega (arith, length-append counts (1 ∷ []), length-append (paths_of links) (p ∷ []), same_length links depths next table counts sized) in
        let e : suc (length links) ≡ suc (length (paths_of links)) = omega (arith, many) in (
          subst (λ ps. suc (length links) ≤ length (tallied ps (counts ++ 1 ∷ []))) (sym grown_paths)
              (omega (arith, length_tallied (paths_of links ++ p ∷ []) (counts ++ 1 ∷ []) long, length-append (paths_of links) (p ∷ []), many)),
          ap (λ ps. path_at (tallied ps (counts ++ 1 ∷ [])) (suc (length links))) grown_paths
              ∙ (path_tallied (paths_of links ++ p ∷ []) (counts ++ 1 ∷ []) (suc (length links)) long
              ∙ (ap (listed (paths_of links ++ p ∷ [])) e ∙ (listed_next (paths_of links) p ∙ sym path_from))),
        )

    -- ---- the table

    link_before : (i : ℕ) → i < length links → link_at (links ++ link place func ∷ []) i ≡ link_at links i
    link_before i less = get_or_append_left links (link place func ∷ []) _ i less

    link_last : link_at (links ++ link place func ∷ []) (length links) ≡ link place func
    link_last = get_or_at links (link place func) [] _ (length links) refl

    depth_before : (d i : ℕ) → i < length links → slice_index (depths ++ d ∷ []) i ≡ slice_index depths i
    depth_before d i less = get_or_append_left depths (d ∷ []) 0 i (omega (arith, less, table.sized))

    depth_last : (d : ℕ) → slice_index (depths ++ d ∷ []) (length links) ≡ d
    depth_last d = get_or_at depths d [] 0 (length links) table.sized

    depth_bound : (p : ℕ) → p ≤ length links → depth_from depths p ≤ length links
    depth_bound zero h = omega arith
    depth_bound (suc j) h = omega (arith, table.deep j (omega arith))

    depth_length : (p : ℕ) → p ≤ length links → depth_from depths p ≡ length (listed (paths_of links) p)
    depth_length zero h = refl
    depth_length (suc j) h =
        let l = link_at links j in
        omega (arith, table.depth j (omega arith), ap length (listed_step links depths next table j (omega arith)), length-append (listed (paths_of links) l.from) (l.func ∷ []))

    same_paths : (p : ℕ) → p ≤ length links → listed (paths_of links) p ≡ listed (paths_of (links ++ link place func ∷ [])) p
    same_paths p h =
        sym (ap (λ ps. listed ps p) grown_paths ∙ listed_left (paths_of links) ((listed (paths_of links) place ++ func ∷ []) ∷ []) p (omega (arith, h, as_many links depths next table counts sized)))

    module _ (fresh : ℕ → List (ℕ × ℕ)) (put : (l : Link) → place_by fresh l ≡ cond (is_link (link place func) l) (Some (suc (length links))) (place_by next l)) where
      led_here : (q : Link) (c : ℕ) → place_by fresh q ≡ Some c → IsChildBy (links ++ link place func ∷ []) q c
      led_here q c h = go (is_link (link place func) q) refl (sym (put q) ∙ h)
        where
          go : (b : Bool) → is_link (link place func) q ≡ b → cond b (Some (suc (length links))) (place_by next q) ≡ Some c → IsChildBy (links ++ link place func ∷ []) q c
          go true same h = (
            length links,
            sym (same_Some (suc (length links)) c h),
            omega (arith, length-append links (link place func ∷ [])),
            link_last ∙ same_link (link place func) q same,
          )
          go false same h =
              let w = table.led q c h in
              (w.0, w.1, omega (arith, w.2, length-append links (link place func ∷ [])), link_before w.0 w.2 ∙ w.3)

      found_here : (i : ℕ) → (i < length links) ⊎ (i ≡ length links) → place_by fresh (link_at (links ++ link place func ∷ []) i) ≡ Some (suc i)
      found_here i (inl h) =
          let l = link_at links i in
          ap (place_by fresh) (link_before i h)
          ∙ (put l ∙ (ap (λ b. cond b (Some (suc (length links))) (place_by next l)) (other (is_link (link place func) l) refl) ∙ table.found i h))
        where
          other : (b : Bool) → is_link (link place func) (link_at links i) ≡ b → b ≡ false
          other true same = absurd (no_place i h (sym (same_link (link place func) (link_at links i) same)))
          other false same = refl
      found_here i (inr h) =
          ap (λ k. place_by fresh (link_at (links ++ link place func ∷ []) k)) h
          ∙ (ap (place_by fresh) link_last
          ∙ (put (link place func)
          ∙ (ap (λ b. cond b (Some (suc (length links))) (place_by next (link place func))) (link_itself (link place func))
          ∙ ap (λ k. Some (suc k)) (sym h))))

      -- with a new place
      pub with_place : ((p : ℕ) → IsStrictlySortedBy nat_cmp (keys_of (fresh p))) → IsNodeTable (links ++ link place func ∷ []) (depths ++ depth_from depths place ∷ []) fresh
      with_place sorted =
          let d = depth_from depths place in
          let longer : List Link = links ++ link place func ∷ [] in
          let long : length (links ++ link place func ∷ []) ≡ length links + 1 = length-append links (link place func ∷ []) in
          let either = λ (i : ℕ) (less : i < length (links ++ link place func ∷ [])). before_or_last i (length links) (omega (arith, less, long)) in
          record {
            sized = omega (arith, length-append depths (d ∷ []), long, table.sized);
            back = λ i less. elim (either i less) [
              | inl h ↦ subst (λ (l : Link). l.from ≤ i) (sym (link_before i h)) (table.back i h)
              | inr h ↦ subst (λ (l : Link). l.from ≤ i) (sym (ap (link_at longer) h ∙ link_last)) (omega (arith, h, known))
            ];
            deep = λ i less. elim (either i less) [
              | inl h ↦ omega (arith, depth_before d i h, table.deep i h)
              | inr h ↦ omega (arith, ap (slice_index (depths ++ d ∷ [])) h, depth_last d, h, depth_bound place known)
            ];
            depth = λ i less. elim (either i less) [
              | inl h ↦ depth_before d i h
                  ∙ (table.depth i h ∙ (ap length (same_paths (link_at links i).from (omega (arith, h, table.back i h)))
                  ∙ ap (λ (l : Link). length (listed (paths_of (links ++ link place func ∷ [])) l.from)) (sym (link_before i h))))
              | inr h ↦ ap (slice_index (depths ++ d ∷ [])) h
                  ∙ (depth_last d ∙ (depth_length place known ∙ (ap length (same_paths place known)
                  ∙ ap (λ (l : Link). length (listed (paths_of (links ++ link place func ∷ [])) l.from)) (sym (ap (link_at longer) h ∙ link_last)))))
            ];
            led = led_here;
            found = λ i less. found_here i (either i less);
            ordered = sorted;
          }
