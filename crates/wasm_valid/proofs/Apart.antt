-- Names of exports, one after another.
use Rattle.std.proofs.Common.{◌≡◌, ◌≢◌, ℕ, ◌+◌, ◌<◌, List, [], ◌∷◌, ◌++◌, take, Bool, true, false, cond, ◌||◌, Some, refl, sym, ap, ◌∙◌, arith, inl, inr, zero, suc}
use Rattle.std.specs.Prelude.{slice_get}
use Rattle.std.specs.List.{list_any}
use Rattle.std.specs.Str.{bytes_eq}
use Rattle.std.specs.Ordering.{nat_cmp, is_eq}
use Rattle.std.specs.Cmp.Lexicographic.{slice_cmp}
use Rattle.std.specs.BTreeSet.{BTreeSet, contains_by}
use Rattle.std.specs.Borrow.{Bor}
use Rattle.std.proofs.lemmas.Bool.{false≢true, or_cases, or_right, cases_lt, false_from_ne_true}
use Rattle.std.proofs.lemmas.List.{take_more}
use Rattle.std.proofs.lemmas.List.Folds.{list_any-append}
use Rattle.std.proofs.lemmas.Map.Text.{is_eq-slice_cmp}
use Rattle.std.proofs.lemmas.Option.{none-some, same_Some, slice_get_within, get_or_from_slice_get}
use Rattle.std.proofs.lemmas.Slice.Eq.{bytes_eq-Decides}
use Rattle.module_ast.specs.declared.module.Export.{Export}

-- no two have the same name
abbrev pub AreApart : List Export → Type 0
AreApart es = (i j : ℕ) (a b : Export) → i < j → slice_get es i ≡ Some a → slice_get es j ≡ Some b → a.name.bytes ≢ b.name.bytes

abbrev has_name : List ℕ → Export → Bool
has_name name e = bytes_eq name e.name.bytes

abbrev has_text : BTreeSet (Bor (List ℕ)) → List ℕ → Bool
has_text s name = contains_by (λ k. slice_cmp nat_cmp name k.now) s

-- the set has just the names of these
abbrev pub HasNames : BTreeSet (Bor (List ℕ)) → List Export → Type 0
HasNames s es = (name : List ℕ) → contains_by (λ k. slice_cmp nat_cmp name k.now) s ≡ list_any (λ (e : Export). bytes_eq name e.name.bytes) es

taken : (es : List Export) (i k : ℕ) (a : Export) → slice_get (take i es) k ≡ Some a → (slice_get es k ≡ Some a) × (k < i)
taken es zero k a h = absurd (none-some a h)
taken [] (suc i) k a h = absurd (none-some a h)
taken (e ∷ es) (suc i) zero a h = (h, omega arith)
taken (e ∷ es) (suc i) (suc k) a h = let r = taken es i k a h in (r.0, omega (arith, r.1))

kept : (es : List Export) (i k : ℕ) (a : Export) → slice_get es k ≡ Some a → k < i → slice_get (take i es) k ≡ Some a
kept [] i k a h l = absurd (none-some a h)
kept (e ∷ es) zero k a h l = absurd (omega arith)
kept (e ∷ es) (suc i) zero a h l = h
kept (e ∷ es) (suc i) (suc k) a h l = kept es i k a h (omega arith)

met : (name : List ℕ) (es : List Export) (k : ℕ) (a : Export) → slice_get es k ≡ Some a → name ≡ a.name.bytes → list_any (has_name name) es ≡ true
met name [] k a h n = absurd (none-some a h)
met name (e ∷ es) zero a h n =
    or_left_true (has_name name e) (list_any (has_name name) es) ((bytes_eq-Decides name e.name.bytes).1 (n ∙ ap (λ (x : Export). x.name.bytes) (sym (same_Some e a h))))
  where
    or_left_true : (x y : Bool) → x ≡ true → (x || y) ≡ true
    or_left_true x y p = ap (λ b. b || y) p
met name (e ∷ es) (suc k) a h n = or_right (has_name name e) (list_any (has_name name) es) (met name es k a h n)

found : (name : List ℕ) (es : List Export) → list_any (has_name name) es ≡ true → (k : ℕ) × (a : Export) × (slice_get es k ≡ Some a) × (name ≡ a.name.bytes)
found name [] h = absurd (false≢true h)
found name (e ∷ es) h =
    let rest : list_any (has_name name) es ≡ true → (k : ℕ) × (a : Export) × (slice_get (e ∷ es) k ≡ Some a) × (name ≡ a.name.bytes) =
    λ q. let r = found name es q in (suc r.0, r.1, r.2, r.3) in
    elim (or_cases (has_name name e) (list_any (has_name name) es) h) [ inl p ↦ (0, e, refl, (bytes_eq-Decides name e.name.bytes).0 p) | inr q ↦ rest q ]

-- a name that was met before
pub not_apart : (es : List Export) (i : ℕ) (x : Export) → slice_get es i ≡ Some x → list_any (has_name x.name.bytes) (take i es) ≡ true → AreApart es → ⊥
not_apart es i x at h apart =
    let r = found x.name.bytes (take i es) h in
    let t = taken es i r.0 r.1 r.2 in
    apart r.0 i r.1 x t.1 t.0 at (sym r.3)

pub apart_more : (es : List Export) (i : ℕ) (x : Export) → slice_get es i ≡ Some x → list_any (has_name x.name.bytes) (take i es) ≡ false → AreApart (take i es) → AreApart (take (i + 1) es)
apart_more es i x at new apart = λ j k a b l p q.
    let tj = taken es (i + 1) j a p in
    let tk = taken es (i + 1) k b q in
    let below : j < i = omega (arith, tk.1) in
    elim (cases_lt k i) [
      | inl w ↦ apart j k a b l (kept es i j a tj.0 below) (kept es i k b tk.0 w)
      | inr w ↦ λ same.
          let here : k ≡ i = omega (arith, tk.1, w) in
          let is : b ≡ x = same_Some b x (sym tk.0 ∙ ap (slice_get es) here ∙ at) in
          false≢true (sym new ∙ met x.name.bytes (take i es) j a (kept es i j a tj.0 below) (ap (λ (e : Export). e.name.bytes) (sym is) ∙ sym same))
    ]

pub names_more : (s t : BTreeSet (Bor (List ℕ))) (key : List ℕ) (es : List Export) (i : ℕ) (x : Export) → slice_get es i ≡ Some x → key ≡ x.name.bytes
    → ((q : Bor (List ℕ)) → contains_by (λ k. slice_cmp nat_cmp q.now k.now) t ≡ cond (is_eq (slice_cmp nat_cmp key q.now)) true (contains_by (λ k. slice_cmp nat_cmp q.now k.now) s))
    → HasNames s (take i es) → HasNames t (take (i + 1) es)
names_more s t key es i x at same up had = λ name.
    let q : Bor (List ℕ) = record { ref_ptr = (0, 0); now = name } in
    let more : list_any (has_name name) (take (i + 1) es) ≡ (list_any (has_name name) (take i es) || (has_name name x || false)) =
    ap (list_any (has_name name)) (take_more es i x (slice_get_within es i x at) ∙ ap (λ (e : Export). take i es ++ e ∷ []) (get_or_from_slice_get es i x x at))
    ∙ list_any-append (has_name name) (take i es) (x ∷ []) in
    let now : has_text t name ≡ cond (bytes_eq key name) true (list_any (has_name name) (take i es)) =
    up q ∙ ap (λ b. cond b true (has_text s name)) (is_eq-slice_cmp key name) ∙ ap (λ b. cond (bytes_eq key name) true b) (had name) in
    let joined = now ∙ both (bytes_eq key name) (has_name name x) (list_any (has_name name) (take i es))
    (λ e. (bytes_eq-Decides name x.name.bytes).1 (sym ((bytes_eq-Decides key name).0 e) ∙ same))
    (λ e. false_from_ne_true (has_name name x) (λ h. false≢true (sym e ∙ (bytes_eq-Decides key name).1 (same ∙ sym ((bytes_eq-Decides name x.name.bytes).0 h)))))
    in
    joined ∙ sym more
  where
    both : (a b c : Bool) → (a ≡ true → b ≡ true) → (a ≡ false → b ≡ false) → cond a true c ≡ (c || (b || false))
    both true b c f g = sym (or_right c (b || false) (ap (λ z. z || false) (f refl)))
    both false b c f g = sym (ap (λ z. c || (z || false)) (g refl) ∙ plain c)
      where
        plain : (z : Bool) → (z || (false || false)) ≡ z
        plain true = refl
        plain false = refl
