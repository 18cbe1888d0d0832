-- An entry put into an ordered map of headings, as a row of the book.
use Rattle.std.proofs.Common.{◌≡◌, ℕ, ◌+◌, ◌≤◌, max, List, [], ◌∷◌, map, Option, Some, None, IfSome, refl, ap, sym, ◌∙◌, arith}
use Rattle.std.specs.declared.cmp.Ordering.{Ordering}
use Rattle.std.specs.declared.cmp.Ordering.TheVariants.{Less, Equal, Greater}
use Rattle.std.specs.Cmp.{IsTotalOrder}
use Rattle.std.specs.List.Sorted.{IsStrictlySortedBy}
use Rattle.std.specs.Map.{keys_of, lookup}
use Rattle.std.specs.BTreeMap.{is_at, insert_entry}
use Rattle.std.proofs.lemmas.Map.{lookup-none}
use Rattle.std.proofs.lemmas.Map.Entries.{none_below_head}
use Rattle.std.proofs.lemmas.Map.Keys.{sorted_tail}
use Rattle.std.proofs.lemmas.Map.Views.{All-values-insert_entry, IfSome-lookup_from_All}
use Rattle.analyses.proofs.KeyOrder.{key_cmp_total, total_by}
use Rattle.analyses.specs.declared.Kind.{Kind}
use Rattle.analyses.specs.declared.Kind.TheVariants.{Blocks, Branches, Calls, Memory}
use Rattle.analyses.specs.declared.ledger.Heading.{Heading}
use Rattle.analyses.specs.declared.ledger.Totals.{Totals}
use Rattle.analyses.specs.Book.{key_cmp, key_of_row, counted_row, first_row, with_event}
use Rattle.analyses.specs.Headings.{key_of_heading, row_of_entry, book_of_entries, first_tally, counted_tally, CountsUpTo}

-- what stands under a heading once an event more was counted
abbrev pub next_tally : Kind → ℕ → Option Totals → Totals
next_tally kind a None = first_tally kind a
next_tally kind a (Some t) = counted_tally kind a t

first_entry : (kind : Kind) (h : Heading) (a : ℕ) → row_of_entry (h, first_tally kind a) ≡ first_row kind (key_of_heading h) a
first_entry Memory h a = let e : max 0 a ≡ a = omega arith in rw e refl
first_entry Blocks h a = refl
first_entry Branches h a = refl
first_entry Calls h a = refl

counted_entry : (kind : Kind) (h : Heading) (a : ℕ) (t : Totals) → row_of_entry (h, counted_tally kind a t) ≡ counted_row kind a (row_of_entry (h, t))
counted_entry Memory h a t = refl
counted_entry Blocks h a t = refl
counted_entry Branches h a t = refl
counted_entry Calls h a t = refl

module _ (R : Heading → Heading → Ordering) (same : (p q : Heading) → R p q ≡ key_cmp (key_of_heading p) (key_of_heading q)) where
  total : IsTotalOrder R
  total = total_by key_of_heading key_cmp_total same

  by_order : (kind : Kind) (h : Heading) (a : ℕ) (e : Heading × Totals) (es : List (Heading × Totals)) → IsStrictlySortedBy R (keys_of (e ∷ es))
      → book_of_entries (insert_entry R es h (next_tally kind a (lookup (is_at (R h)) es))) ≡ with_event kind (key_of_heading h) a (book_of_entries es)
      → (o : Ordering) → R h e.0 ≡ o
      → book_of_entries (insert_entry R (e ∷ es) h (next_tally kind a (lookup (is_at (R h)) (e ∷ es)))) ≡ with_event kind (key_of_heading h) a (book_of_entries (e ∷ es))
  by_order kind h a e es sorted rest Less p =
      let q : key_cmp (key_of_heading h) (key_of_row (row_of_entry e)) ≡ Less = sym (same h e.0) ∙ p in
      let none : lookup (is_at (R h)) es ≡ None = lookup-none (is_at (R h)) es (none_below_head total h e es sorted p).1 in
      rw (p, q, none) (ap (λ r. r ∷ row_of_entry e ∷ map row_of_entry es) (first_entry kind h a))
  by_order kind h a e es sorted rest Equal p =
      let q : key_cmp (key_of_heading h) (key_of_row (row_of_entry e)) ≡ Equal = sym (same h e.0) ∙ p in
      rw (p, q) (ap (λ r. r ∷ map row_of_entry es) (counted_entry kind e.0 a e.1))
  by_order kind h a e es sorted rest Greater p =
      let q : key_cmp (key_of_heading h) (key_of_row (row_of_entry e)) ≡ Greater = sym (same h e.0) ∙ p in
      rw (p, q) (ap (λ rs. row_of_entry e ∷ rs) rest)

  -- it is counted in its row, or in a new row at its place
  pub entries_counted : (kind : Kind) (h : Heading) (a : ℕ) (es : List (Heading × Totals)) → IsStrictlySortedBy R (keys_of es)
      → book_of_entries (insert_entry R es h (next_tally kind a (lookup (is_at (R h)) es))) ≡ with_event kind (key_of_heading h) a (book_of_entries es)
  entries_counted kind h a [] sorted = ap (λ r. r ∷ []) (first_entry kind h a)
  entries_counted kind h a (e ∷ es) sorted =
      by_order kind h a e es sorted (entries_counted kind h a es (sorted_tail R e.0 (keys_of es) sorted)) (R h e.0) refl

  -- the same of the entries that an insertion leaves
  pub book_counted : (kind : Kind) (h : Heading) (a : ℕ) (es fs : List (Heading × Totals)) (v : Totals) → IsStrictlySortedBy R (keys_of es)
      → fs ≡ insert_entry R es h v → v ≡ next_tally kind a (lookup (is_at (R h)) es)
      → book_of_entries fs ≡ with_event kind (key_of_heading h) a (book_of_entries es)
  book_counted kind h a es fs v sorted put is =
      ap book_of_entries (put ∙ ap (λ t. insert_entry R es h t) is) ∙ entries_counted kind h a es sorted

more_counted : (kind : Kind) (n a : ℕ) (o : Option Totals) → IfSome o (λ t. t.count ≤ n) → (next_tally kind a o).count ≤ n + 1
more_counted Memory n a None h = omega arith
more_counted Blocks n a None h = omega arith
more_counted Branches n a None h = omega arith
more_counted Calls n a None h = omega arith
more_counted Memory n a (Some t) h = omega (arith, h)
more_counted Blocks n a (Some t) h = omega (arith, h)
more_counted Branches n a (Some t) h = omega (arith, h)
more_counted Calls n a (Some t) h = omega (arith, h)

pub counts_up_to_more : (n : ℕ) (es : List (Heading × Totals)) → CountsUpTo n es → CountsUpTo (n + 1) es
counts_up_to_more n es h = λ k d l. omega (arith, h k d l)

-- no count rises by more than one
pub counts_counted : (R : Heading → Heading → Ordering) (kind : Kind) (h : Heading) (a n : ℕ) (es fs : List (Heading × Totals)) (v : Totals)
    → fs ≡ insert_entry R es h v → v ≡ next_tally kind a (lookup (is_at (R h)) es) → CountsUpTo n es → CountsUpTo (n + 1) fs
counts_counted R kind h a n es fs v put is bound =
    let found : IfSome (lookup (is_at (R h)) es) (λ t. t.count ≤ n) = IfSome-lookup_from_All (λ (t : Totals). t.count ≤ n) (is_at (R h)) es bound in
    let one : v.count ≤ n + 1 = rw is (more_counted kind n a (lookup (is_at (R h)) es) found) in
    rw put (All-values-insert_entry R h v (λ (t : Totals). t.count ≤ n + 1) es (counts_up_to_more n es bound) one)
