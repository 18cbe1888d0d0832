-- The paths of a tree of places.
--     listed_first      those of the places before stay
--     listed_step       that of a place is the one of the place before it, with its function
--     paths_differ      no two places have the same path
use Rattle.std.proofs.Common.{◌≡◌, ℕ, zero, suc, ◌+◌, ◌<◌, ◌≤◌, List, [], ◌∷◌, ◌++◌, length, refl, ap, ap₂, sym, ◌∙◌, arith}
use Rattle.std.proofs.lemmas.List.{length-append, get_or_append_left, get_or_at, same_from_push}
use Rattle.std.proofs.lemmas.Option.{same_Some}
use Rattle.call_tree.specs.Table.{Link, link, link_at, place_by, listed, grown, paths_of, IsNodeTable}

-- ---- the list of paths

pub length_grown : (paths : List (List ℕ)) (links : List Link) → length (grown paths links) ≡ length paths + length links
length_grown paths [] = omega arith
length_grown paths (l ∷ ls) =
    length_grown (paths ++ (listed paths l.from ++ l.func ∷ []) ∷ []) ls
    ∙ omega (arith, length-append paths ((listed paths l.from ++ l.func ∷ []) ∷ []))

pub listed_left : (paths more : List (List ℕ)) (i : ℕ) → i ≤ length paths → listed (paths ++ more) i ≡ listed paths i
listed_left paths more zero h = refl
listed_left paths more (suc i) h = get_or_append_left paths more [] i (omega arith)

pub listed_first : (paths : List (List ℕ)) (links : List Link) (i : ℕ) → i ≤ length paths → listed (grown paths links) i ≡ listed paths i
listed_first paths [] i h = refl
listed_first paths (l ∷ ls) i h =
    let next = (listed paths l.from ++ l.func ∷ []) ∷ [] in
    listed_first (paths ++ next) ls i (omega (arith, length-append paths next)) ∙ listed_left paths next i h

pub listed_next : (paths : List (List ℕ)) (p : List ℕ) → listed (paths ++ p ∷ []) (suc (length paths)) ≡ p
listed_next paths p = get_or_at paths p [] [] (length paths) refl

-- that of a place goes on from the one that its link names
grown_step : (paths : List (List ℕ)) (links : List Link) (i : ℕ) → i < length links → ((j : ℕ) → j < length links → (link_at links j).from ≤ length paths + j)
    → listed (grown paths links) (suc (length paths + i)) ≡ listed (grown paths links) (link_at links i).from ++ (link_at links i).func ∷ []
grown_step paths [] i h back = absurd (omega arith)
grown_step paths (l ∷ ls) zero h back =
    let p = listed paths l.from ++ l.func ∷ [] in
    let known : l.from ≤ length paths = omega (arith, back 0 (omega arith)) in
    let e : suc (length paths + 0) ≡ suc (length paths) = omega arith in
    ap (λ k. listed (grown (paths ++ p ∷ []) ls) k) e
    ∙ (listed_first (paths ++ p ∷ []) ls (suc (length paths)) (omega (arith, length-append paths (p ∷ [])))
    ∙ (listed_next paths p ∙ ap (λ p. p ++ l.func ∷ []) (sym (listed_first paths (l ∷ ls) l.from known))))
grown_step paths (l ∷ ls) (suc i) h back =
    let p = listed paths l.from ++ l.func ∷ [] in
    let one : length (paths ++ p ∷ []) ≡ suc (length paths) = omega (arith, length-append paths (p ∷ [])) in
    let e : suc (length paths + suc i) ≡ suc (length (paths ++ p ∷ []) + i) = omega arith in
    ap (λ k. listed (grown (paths ++ p ∷ []) ls) k) e
    ∙ grown_step (paths ++ p ∷ []) ls i (omega arith) (λ j k. omega (arith, back (suc j) (omega arith)))

pub grown_push : (paths : List (List ℕ)) (links : List Link) (l : Link) → grown paths (links ++ l ∷ []) ≡ grown paths links ++ (listed (grown paths links) l.from ++ l.func ∷ []) ∷ []
grown_push paths [] l = refl
grown_push paths (k ∷ ks) l = grown_push (paths ++ (listed paths k.from ++ k.func ∷ []) ∷ []) ks l

-- ---- in a table

module _ (links : List Link) (depths : List ℕ) (next : ℕ → List (ℕ × ℕ)) (table : IsNodeTable links depths next) where
  pub listed_step : (i : ℕ) → i < length links → listed (paths_of links) (suc i) ≡ listed (paths_of links) (link_at links i).from ++ (link_at links i).func ∷ []
  listed_step i h =
      let e : i ≡ length {A = List ℕ} [] + i = omega arith in
      ap (λ k. listed (paths_of links) (suc k)) e ∙ grown_step [] links i h (λ j k. omega (arith, table.back j k))

  not_empty : (xs : List ℕ) (x : ℕ) → [] ≡ xs ++ x ∷ [] → ⊥
  not_empty [] x h = cc
  not_empty (y ∷ xs) x h = cc

  same_place : (m i j : ℕ) → i ≤ m → i ≤ length links → j ≤ length links → listed (paths_of links) i ≡ listed (paths_of links) j → i ≡ j
  same_place m zero zero small h k same = refl
  same_place m zero (suc j) small h k same = absurd (not_empty _ _ (same ∙ listed_step j (omega arith)))
  same_place m (suc i) zero small h k same = absurd (not_empty _ _ (sym same ∙ listed_step i (omega arith)))
  same_place zero (suc i) (suc j) small h k same = absurd (omega arith)
  same_place (suc m) (suc i) (suc j) small h k same =
      let a = link_at links i in
      let b = link_at links j in
      let ends = same_from_push (listed (paths_of links) a.from) (listed (paths_of links) b.from) a.func b.func
      (sym (listed_step i (omega arith)) ∙ (same ∙ listed_step j (omega arith))) in
      let places : a.from ≡ b.from =
      same_place m a.from b.from (omega (arith, table.back i (omega arith))) (omega (arith, table.back i (omega arith))) (omega (arith, table.back j (omega arith))) ends.0 in
      same_Some (suc i) (suc j) (sym (table.found i (omega arith)) ∙ (ap (place_by next) (ap₂ link places ends.1) ∙ table.found j (omega arith)))

  -- no two places have the same path
  pub paths_differ : (i j : ℕ) → i ≤ length links → j ≤ length links → listed (paths_of links) i ≡ listed (paths_of links) j → i ≡ j
  paths_differ i j h k same = same_place i i j (omega arith) h k same
