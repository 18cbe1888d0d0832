-- A path that is counted, in the map from paths to counts and in the list of places; and begins that are open.
use Rattle.std.proofs.Common.{◌≡◌, ◌≢◌, ℕ, zero, suc, ◌+◌, ◌<◌, ◌≤◌, List, [], ◌∷◌, ◌++◌, Option, Some, unwrap_or, Bool, true, false, cond, ◌==◌, ◌&&◌, true≢false, refl, ap, ap₂, sym, ◌∙◌, arith}
use Rattle.std.specs.Ordering.{nat_cmp, eq_by_cmp, int_eq}
use Rattle.std.specs.Cmp.{IsEquivalence}
use Rattle.std.specs.Cmp.Lexicographic.{slice_cmp}
use Rattle.std.specs.FinMap.{get, find, same_map, get-from_entries, get-insert}
use Rattle.std.proofs.lemmas.Cmp.{nat_list_cmp_total, eq_by_cmp_equiv}
use Rattle.std.proofs.lemmas.Map.Lookups.{exact_bytes}
use Rattle.std.proofs.lemmas.List.{append_assoc}
use Rattle.std.proofs.lemmas.Bool.{and_parts, eqb-true}
use Rattle.wasm_num.specs.Kinds.{kind_number}
use Rattle.wasm_sem.specs.Types.{BlockKind, Loc}
use Rattle.wasm_num.specs.declared.BlockKind.TheVariants as kinds
use Rattle.wasm_sem.specs.Nests.{Bracket}
use Rattle.call_tree.specs.Counts.{with_entry, entry_at, path_at, with_path, path_counts, CountsPathsUpTo}
use Rattle.call_tree.specs.Paths.{path_to, is_function, same_bracket}
use Rattle.call_tree.specs.State.{begun, kind_with, kind_again}
use Rattle.call_tree.proofs.PathOrder.{same_path}

-- ---- counts

pub counts_rise : (n : ℕ) (path : List ℕ) (es : List (List ℕ × ℕ)) → CountsPathsUpTo n es → CountsPathsUpTo (n + 1) (with_entry path es)
counts_rise n path [] bound zero = omega arith
counts_rise n path [] bound (suc i) = omega arith
counts_rise n path (e ∷ es) bound i =
    elim (eq_by_cmp (slice_cmp nat_cmp) path e.0) as (λ b. (entry_at (cond b ((e.0, e.1 + 1) ∷ es) (e ∷ with_entry path es)) i).1 ≤ n + 1) [
      | true ↦ counted i
      | false ↦ other (counts_rise n path es (λ k. bound (suc k))) i
    ]
  where
    counted : (k : ℕ) → (entry_at ((e.0, e.1 + 1) ∷ es) k).1 ≤ n + 1
    counted zero = omega (arith, bound 0)
    counted (suc k) = omega (arith, bound (suc k))

    other : CountsPathsUpTo (n + 1) (with_entry path es) → (k : ℕ) → (entry_at (e ∷ with_entry path es) k).1 ≤ n + 1
    other rest zero = omega (arith, bound 0)
    other rest (suc k) = rest k

pub counts_stay : (n : ℕ) (es : List (List ℕ × ℕ)) → CountsPathsUpTo n es → CountsPathsUpTo (n + 1) es
counts_stay n es bound i = omega (arith, bound i)

abbrev same : List ℕ → List ℕ → Bool
same p q = eq_by_cmp (slice_cmp nat_cmp) p q

alike : IsEquivalence (eq_by_cmp (slice_cmp nat_cmp))
alike = eq_by_cmp_equiv nat_list_cmp_total

abbrev next : Option ℕ → ℕ
next o = unwrap_or o 0 + 1

found_tied : (q path : List ℕ) (e : List ℕ × ℕ) (rest : Option ℕ) → path ≡ e.0
    → cond (same q e.0) (Some (e.1 + 1)) rest ≡ cond (same q path) (Some (e.1 + 1)) (cond (same q e.0) (Some e.1) rest)
found_tied q path e rest is =
    elim (same q e.0) as (λ b. cond b (Some (e.1 + 1)) rest ≡ cond b (Some (e.1 + 1)) (cond b (Some e.1) rest)) [ true ↦ refl | false ↦ refl ]
    ∙ ap (λ p. cond (same q p) (Some (e.1 + 1)) (cond (same q e.0) (Some e.1) rest)) (sym is)

found_apart : (q path : List ℕ) (e : List ℕ × ℕ) (x : ℕ) (rest : Option ℕ) → same path e.0 ≡ false
    → cond (same q e.0) (Some e.1) (cond (same q path) (Some x) rest) ≡ cond (same q path) (Some x) (cond (same q e.0) (Some e.1) rest)
found_apart q path e x rest apart = go (same q e.0) (same q path) refl refl
  where
    go : (a b : Bool) → same q e.0 ≡ a → same q path ≡ b → cond a (Some e.1) (cond b (Some x) rest) ≡ cond b (Some x) (cond a (Some e.1) rest)
    go true true h k = absurd (true≢false (sym h ∙ (alike.congr q path e.0 k ∙ apart)))
    go true false h k = refl
    go false b h k = refl

found_with : (q path : List ℕ) (es : List (List ℕ × ℕ))
    → find (slice_cmp nat_cmp) q (with_entry path es) ≡ cond (same q path) (Some (next (find (slice_cmp nat_cmp) path es))) (find (slice_cmp nat_cmp) q es)
found_with q path [] = refl
found_with q path (e ∷ es) = go (same path e.0) refl (found_with q path es)
  where
    go : (b : Bool) → same path e.0 ≡ b
        → find (slice_cmp nat_cmp) q (with_entry path es) ≡ cond (same q path) (Some (next (find (slice_cmp nat_cmp) path es))) (find (slice_cmp nat_cmp) q es)
        → find (slice_cmp nat_cmp) q (cond b ((e.0, e.1 + 1) ∷ es) (e ∷ with_entry path es))
        ≡ cond (same q path) (Some (next (cond b (Some e.1) (find (slice_cmp nat_cmp) path es)))) (cond (same q e.0) (Some e.1) (find (slice_cmp nat_cmp) q es))
    go true is rest = found_tied q path e (find (slice_cmp nat_cmp) q es) (same_path path e.0 is)
    go false is rest =
        ap (λ o. cond (same q e.0) (Some e.1) o) rest
        ∙ found_apart q path e (next (find (slice_cmp nat_cmp) path es)) (find (slice_cmp nat_cmp) q es) is

-- one more in the list is one more in the map
pub counts_with : (path : List ℕ) (es : List (List ℕ × ℕ)) → path_counts (with_entry path es) ≡ with_path (path_counts es) path
counts_with path es =
    same_map nat_list_cmp_total exact_bytes (path_counts (with_entry path es)) (with_path (path_counts es) path)
    (λ q. get-from_entries nat_list_cmp_total (with_entry path es) q
    ∙ (found_with q path es
    ∙ sym (get-insert nat_list_cmp_total (path_counts es) path (next (get (path_counts es) path)) q
    ∙ ap₂ (λ (a b : Option ℕ). cond (same q path) (Some (next a)) b) (get-from_entries nat_list_cmp_total es path) (get-from_entries nat_list_cmp_total es q))))

-- ---- begins

pub path_split : (bs : List Bracket) (inner : List ℕ) → path_to bs inner ≡ path_to bs [] ++ inner
path_split [] inner = refl
path_split (b ∷ bs) inner = go (is_function b.kind) (path_split bs)
  where
    go : (t : Bool) → ((more : List ℕ) → path_to bs more ≡ path_to bs [] ++ more) → path_to bs (cond t (b.func ∷ inner) inner) ≡ path_to bs (cond t (b.func ∷ []) []) ++ inner
    go true rest = rest (b.func ∷ inner) ∙ (sym (append_assoc (path_to bs []) (b.func ∷ []) inner) ∙ ap (λ l. l ++ inner) (sym (rest (b.func ∷ []))))
    go false rest = rest inner

-- the functions that are open are the outer ones, and then the latest
pub path_with : (bs : List Bracket) (b : Bracket) → is_function b.kind ≡ true → path_to (b ∷ bs) [] ≡ path_to bs [] ++ b.func ∷ []
path_with bs b is = ap (λ t. path_to bs (cond t (b.func ∷ []) [])) is ∙ path_split bs (b.func ∷ [])

pub path_same : (bs : List Bracket) (b : Bracket) → is_function b.kind ≡ false → path_to (b ∷ bs) [] ≡ path_to bs []
path_same bs b is = ap (λ t. path_to bs (cond t (b.func ∷ []) [])) is

pub other_begun : (brackets : List Bracket) (loc : Loc) (kind : BlockKind) → is_function kind ≡ false → begun brackets loc kind ≡ []
other_begun brackets loc kinds.Function h = absurd (true≢false h)
other_begun brackets loc kinds.Block h = refl
other_begun brackets loc kinds.Loop h = refl
other_begun brackets loc kinds.If h = refl
other_begun brackets loc kinds.Else h = refl

pub function_begun : (brackets : List Bracket) (loc : Loc) (kind : BlockKind) → kind ≡ kinds.Function → begun brackets loc kind ≡ path_to brackets (loc.func ∷ []) ∷ []
function_begun brackets loc kind h = ap (begun brackets loc) h

pub not_function : (kind : BlockKind) → kind ≢ kinds.Function → is_function kind ≡ false
not_function kinds.Function h = absurd (h refl)
not_function kinds.Block h = refl
not_function kinds.Loop h = refl
not_function kinds.If h = refl
not_function kinds.Else h = refl

-- ---- ends

pub same_kind : (a b : Bracket) → same_bracket a b ≡ true → a.kind ≡ b.kind
same_kind a b h =
    let w = and_parts (a.func == b.func) ((kind_number a.kind == kind_number b.kind) && int_eq a.begin b.begin) h in
    let u = and_parts (kind_number a.kind == kind_number b.kind) (int_eq a.begin b.begin) w.1 in
    sym (kind_again a.kind) ∙ (ap kind_with (eqb-true (kind_number a.kind) (kind_number b.kind) u.0) ∙ kind_again b.kind)

-- a path that is not empty is at a place behind 0
pub behind_none : (es : List (List ℕ × ℕ)) (place : ℕ) (path : List ℕ) (f : ℕ) → path_at es place ≡ path ++ f ∷ [] → 0 < place
behind_none es zero [] f h = cc
behind_none es zero (x ∷ path) f h = cc
behind_none es (suc i) path f h = omega arith
