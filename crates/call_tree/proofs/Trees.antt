-- A table is a tree of places.
use Rattle.std.proofs.Common.{◌≡◌, ℕ, suc, ◌<◌, ◌≤◌, ◌⊎◌, inl, inr, List, [], ◌∷◌, ◌++◌, length, Some, refl, ap, ap₂, sym, ◌∙◌, subst, cond, arith}
use Rattle.std.specs.declared.cmp.Ordering.{Ordering}
use Rattle.std.specs.declared.cmp.Ordering.TheVariants.{Less, Equal, Greater}
use Rattle.std.specs.Ordering.{nat_cmp, is_eq, ordering_reverse}
use Rattle.std.specs.List.{AllByRecursion}
use Rattle.std.specs.List.Sorted.{IsStrictlySortedBy}
use Rattle.std.specs.Map.{lookup, keys_of, values_of}
use Rattle.std.specs.BTreeMap.{is_at}
use Rattle.std.proofs.lemmas.Cmp.{nat_cmp_total, tied_itself}
use Rattle.std.proofs.lemmas.Map.Lookups.{exact_unsigned}
use Rattle.std.proofs.lemmas.Option.{same_Some}
use Rattle.std.proofs.lemmas.Bool.Decides.{nat_tests}
use Rattle.module_ast.proofs.Indexed.{IsIn, all_in}
use Rattle.call_tree.specs.Table.{Link, link, link_at, listed, paths_of, kids, IsNodeTable, IsChildBy}
use Rattle.call_tree.proofs.PathOrder.{StandsApart, forks_apart}
use Rattle.call_tree.proofs.Preorder.{AreApart, IsTree}
use Rattle.call_tree.proofs.Grown.{listed_step}

-- ---- entries by function

abbrev pub Lists : (func place : ℕ) → List (ℕ × ℕ) → Type 0
Lists f c [] = ⊥
Lists f c (e ∷ es) = (e ≡ (f, c)) ⊎ Lists f c es

key_at : (P : ℕ → Type 0) (es : List (ℕ × ℕ)) (f c : ℕ) → AllByRecursion P (keys_of es) → Lists f c es → P f
key_at P [] f c all h = absurd h
key_at P (e ∷ es) f c all (inl h) = subst P (ap (λ (x : ℕ × ℕ). x.0) h) all.0
key_at P (e ∷ es) f c all (inr h) = key_at P es f c all.1 h

lookup_lists : (f c : ℕ) (es : List (ℕ × ℕ)) → lookup (is_at (nat_cmp f)) es ≡ Some c → Lists f c es
lookup_lists f c [] h = cc
lookup_lists f c (e ∷ es) h = go (nat_cmp f e.0) refl h (lookup_lists f c es)
  where
    go : (o : Ordering) → nat_cmp f e.0 ≡ o → cond (is_eq o) (Some e.1) (lookup (is_at (nat_cmp f)) es) ≡ Some c
        → (lookup (is_at (nat_cmp f)) es ≡ Some c → Lists f c es) → Lists f c (e ∷ es)
    go Less is h rest = inr (rest h)
    go Equal is h rest = inl (ap₂ (λ (a : ℕ) (b : ℕ). (a, b)) (sym (exact_unsigned f e.0 is)) (same_Some e.1 c h))
    go Greater is h rest = inr (rest h)

lists_lookup : (f c : ℕ) (es : List (ℕ × ℕ)) → IsStrictlySortedBy nat_cmp (keys_of es) → Lists f c es → lookup (is_at (nat_cmp f)) es ≡ Some c
unfolding IsStrictlySortedBy
lists_lookup f c [] sorted h = absurd h
lists_lookup f c (e ∷ es) sorted (inl h) =
    ap (λ (x : ℕ × ℕ). cond (is_eq (nat_cmp f x.0)) (Some x.1) (lookup (is_at (nat_cmp f)) es)) h
    ∙ ap (λ o. cond (is_eq o) (Some c) (lookup (is_at (nat_cmp f)) es)) (tied_itself nat_cmp_total f)
lists_lookup f c (e ∷ es) sorted (inr h) =
    let before : nat_cmp e.0 f ≡ Less = key_at (λ q. nat_cmp e.0 q ≡ Less) es f c sorted.0 h in
    ap (λ o. cond (is_eq o) (Some e.1) (lookup (is_at (nat_cmp f)) es)) (nat_cmp_total.antisymm f e.0 ∙ ap ordering_reverse before)
    ∙ lists_lookup f c es sorted.1 h

-- ---- the places of entries

value_listed : (c : ℕ) (es : List (ℕ × ℕ)) → IsIn c (values_of es) → (f : ℕ) × Lists f c es
value_listed c [] h = absurd h
value_listed c (e ∷ es) (inl h) = (e.0, inl (ap (λ (b : ℕ). (e.0, b)) (sym h)))
value_listed c (e ∷ es) (inr h) = let w = value_listed c es h in (w.0, inr w.1)

listed_value : (f c : ℕ) (es : List (ℕ × ℕ)) → Lists f c es → IsIn c (values_of es)
listed_value f c [] h = absurd h
listed_value f c (e ∷ es) (inl h) = inl (sym (ap (λ (x : ℕ × ℕ). x.1) h))
listed_value f c (e ∷ es) (inr h) = inr (listed_value f c es h)

rising : (f g : ℕ) → nat_cmp f g ≡ Less → f < g
rising f g h = grind (arith, nat_tests)

-- places that are reached from one by rising functions stand apart
values_apart : (path : ℕ → List ℕ) (from : List ℕ) (es : List (ℕ × ℕ)) → IsStrictlySortedBy nat_cmp (keys_of es)
    → ((f c : ℕ) → Lists f c es → path c ≡ from ++ f ∷ []) → AreApart path (values_of es)
unfolding IsStrictlySortedBy
values_apart path from [] sorted known = tt
values_apart path from (e ∷ es) sorted known = (
  all_in (λ d. StandsApart (path e.1) (path d)) (values_of es)
      (λ d among.
      let w = value_listed d es among in
      let less : nat_cmp e.0 w.0 ≡ Less = key_at (λ q. nat_cmp e.0 q ≡ Less) es w.0 d sorted.0 w.1 in
      subst (λ x. StandsApart x (path d)) (sym (known e.0 e.1 (inl refl)))
      (subst (λ x. StandsApart (from ++ e.0 ∷ []) x) (sym (known w.0 d (inr w.1))) (forks_apart from e.0 w.0 (rising e.0 w.0 less)))),
  values_apart path from es sorted.1 (λ f c h. known f c (inr h)),
)

-- ---- the tree

module _ (links : List Link) (depths : List ℕ) (next : ℕ → List (ℕ × ℕ)) (table : IsNodeTable links depths next) where
  leads : (p f c : ℕ) → Lists f c (next p) → IsChildBy links (link p f) c
  leads p f c h = table.led (link p f) c (lists_lookup f c (next p) (table.ordered p) h)

  led_path : (p f c : ℕ) → Lists f c (next p) → listed (paths_of links) c ≡ listed (paths_of links) p ++ f ∷ []
  led_path p f c h =
      let w = leads p f c h in
      ap (listed (paths_of links)) w.1 ∙ (listed_step links depths next table w.0 w.2 ∙ ap (λ (x : Link). listed (paths_of links) x.from ++ x.func ∷ []) w.3)

  kid_up : (p f c : ℕ) → Lists f c (next p) → (p < c) × (c ≤ length links)
  kid_up p f c h =
      let w = leads p f c h in
      let place : (link_at links w.0).from ≡ p = ap (λ (x : Link). x.from) w.3 in
      (omega (arith, w.1, table.back w.0 w.2, place), omega (arith, w.1, w.2))

  pub table_tree : IsTree (length links) (listed (paths_of links)) (kids next)
  table_tree = record {
    up = λ p c h. let w = value_listed c (next p) h in kid_up p w.0 c w.1;
    by = λ p c h. let w = value_listed c (next p) h in (w.0, led_path p w.0 c w.1);
    apart = λ p. values_apart (listed (paths_of links)) (listed (paths_of links) p) (next p) (table.ordered p) (led_path p);
    from = λ i h. let l = link_at links i in (l.from, table.back i h, listed_value l.func (suc i) (next l.from) (lookup_lists l.func (suc i) (next l.from) (table.found i h)));
  }
