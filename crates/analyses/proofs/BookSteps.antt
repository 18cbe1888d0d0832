-- The rows of a book, once an event more came.
use Rattle.std.proofs.Common.{◌≡◌, ℕ, ◌+◌, ◌<◌, min, max, List, [], ◌∷◌, ◌++◌, map, filter_map, fold, length, Option, Some, None, Bool, true, false, ◌||◌, true≢false, cond, refl, ap, ap₂, sym, ◌∙◌, arith}
use Rattle.std.specs.declared.cmp.Ordering.{Ordering}
use Rattle.std.specs.declared.cmp.Ordering.TheVariants.{Less, Equal, Greater}
use Rattle.std.specs.Ordering.{is_eq, match_ordering}
use Rattle.std.specs.List.{cons_option}
use Rattle.std.proofs.lemmas.List.{map-append, length-append, append-nil}
use Rattle.std.proofs.lemmas.Cmp.{tied_itself}
use Rattle.std.proofs.lemmas.List.Elements.{filter-append}
use Rattle.std.proofs.lemmas.List.Sums.{fold-append}
use Rattle.hook_select.specs.declared.Event.{Event}
use Rattle.analyses.specs.declared.Kind.{Kind}
use Rattle.analyses.specs.declared.Kind.TheVariants.{Blocks, Branches, Calls, Memory}
use Rattle.analyses.specs.declared.Row.{Row}
use Rattle.analyses.specs.Book.{Key, key_cmp, counted_key, has_key, events_with, least_of, greatest_of, addresses, row_of, row_in, first_row, counted_row, with_event, key_in_order, address_of}
use Rattle.analyses.proofs.KeyOrder.{key_cmp_total}
use Rattle.analyses.proofs.SortedKeys.{member, AreAbove, IsRising, flipped, member_self, not_below, all_weaker}

or_true : (b : Bool) → (b || true) ≡ true
or_true true = refl
or_true false = refl

among_more : (q j : Key) (js : List Key) → member q js ≡ true → member q (j ∷ js) ≡ true
among_more q j js among = ap (λ b. is_eq (key_cmp q j) || b) among ∙ or_true (is_eq (key_cmp q j))

-- ---- a row from its events

abbrev row_from : Kind → Key → List Event → Row
row_from kind k found = row_of k (addresses kind found) (length found)

least_more : (f : Event) (fs : List Event) (e : Event)
    → least_of (map address_of ((f ∷ fs) ++ e ∷ [])) ≡ min (least_of (map address_of (f ∷ fs))) (address_of e)
least_more f fs e = ap (λ ns. fold min (address_of f) ns) (map-append address_of fs (e ∷ [])) ∙ fold-append min (address_of f) (map address_of fs) (address_of e ∷ [])

greatest_more : (fs : List Event) (e : Event) → greatest_of (map address_of (fs ++ e ∷ [])) ≡ max (greatest_of (map address_of fs)) (address_of e)
greatest_more fs e = ap greatest_of (map-append address_of fs (e ∷ [])) ∙ fold-append max 0 (map address_of fs) (address_of e ∷ [])

one_more : (fs : List Event) (e : Event) → length (fs ++ e ∷ []) ≡ length fs + 1
one_more fs e = omega (arith, length-append fs (e ∷ []))

row_first : (kind : Kind) (k : Key) (e : Event) → row_from kind k (e ∷ []) ≡ first_row kind k (address_of e)
row_first Memory k e = refl
row_first Blocks k e = refl
row_first Branches k e = refl
row_first Calls k e = refl

abbrev memory_row : Key → (count least greatest : ℕ) → Row
memory_row k count least greatest = record {
  func = k.func;
  instr = k.instr;
  tag = k.tag;
  other = k.other;
  count = count;
  least = least;
  greatest = greatest;
}

same_memory : (k : Key) (n m a b c d : ℕ) → n ≡ m → a ≡ b → c ≡ d → memory_row k n a c ≡ memory_row k m b d
same_memory k n m a b c d p q r = cc

row_more : (kind : Kind) (k : Key) (found : List Event) (e : Event) → 0 < length found
    → row_from kind k (found ++ e ∷ []) ≡ counted_row kind (address_of e) (row_from kind k found)
row_more kind k [] e some = absurd (omega arith)
row_more Memory k (f ∷ fs) e some =
    same_memory k (length ((f ∷ fs) ++ e ∷ [])) (length (f ∷ fs) + 1) _ _ _ _ (one_more (f ∷ fs) e) (least_more f fs e) (greatest_more (f ∷ fs) e)
row_more Blocks k (f ∷ fs) e some = ap (λ n. row_of k [] n) (one_more (f ∷ fs) e)
row_more Branches k (f ∷ fs) e some = ap (λ n. row_of k [] n) (one_more (f ∷ fs) e)
row_more Calls k (f ∷ fs) e some = ap (λ n. row_of k [] n) (one_more (f ∷ fs) e)

-- ---- the events of a key

kept_some : (b m : Bool) (e : Event) (found : List Event) → (m ≡ true → 0 < length found) → (b || m) ≡ true → 0 < length (cond b (e ∷ found) found)
kept_some true m e found rest among = omega arith
kept_some false m e found rest among = rest among

kept_none : (b m : Bool) (e : Event) (found : List Event) → (m ≡ false → found ≡ []) → (b || m) ≡ false → cond b (e ∷ found) found ≡ []
kept_none true m e found rest apart = absurd (true≢false apart)
kept_none false m e found rest apart = rest apart

found_at : (kind : Kind) (q : Key) (e : Event) (es : List Event) → (member q (filter_map (counted_key kind) es) ≡ true → 0 < length (events_with kind q es))
    → (o : Option Key) → member q (cons_option o (filter_map (counted_key kind) es)) ≡ true → 0 < length (cond (has_key q o) (e ∷ events_with kind q es) (events_with kind q es))
found_at kind q e es rest None among = rest among
found_at kind q e es rest (Some k) among = kept_some (is_eq (key_cmp q k)) (member q (filter_map (counted_key kind) es)) e (events_with kind q es) rest among

-- where a key is that of an event, some event has it
pub found_from : (kind : Kind) (q : Key) (es : List Event) → member q (filter_map (counted_key kind) es) ≡ true → 0 < length (events_with kind q es)
found_from kind q [] among = absurd (true≢false (sym among))
found_from kind q (e ∷ es) among = found_at kind q e es (found_from kind q es) (counted_key kind e) among

none_at : (kind : Kind) (q : Key) (e : Event) (es : List Event) → (member q (filter_map (counted_key kind) es) ≡ false → events_with kind q es ≡ [])
    → (o : Option Key) → member q (cons_option o (filter_map (counted_key kind) es)) ≡ false → cond (has_key q o) (e ∷ events_with kind q es) (events_with kind q es) ≡ []
none_at kind q e es rest None apart = rest apart
none_at kind q e es rest (Some k) apart = kept_none (is_eq (key_cmp q k)) (member q (filter_map (counted_key kind) es)) e (events_with kind q es) rest apart

-- else none has it
pub none_from : (kind : Kind) (q : Key) (es : List Event) → member q (filter_map (counted_key kind) es) ≡ false → events_with kind q es ≡ []
none_from kind q [] apart = refl
none_from kind q (e ∷ es) apart = none_at kind q e es (none_from kind q es) (counted_key kind e) apart

-- ---- an event that is not counted

row_without : (kind : Kind) (es : List Event) (e : Event) → counted_key kind e ≡ None → (q : Key) → row_in kind (es ++ e ∷ []) q ≡ row_in kind es q
row_without kind es e is q =
    ap (row_from kind q) (filter-append (λ x. has_key q (counted_key kind x)) es (e ∷ [])
    ∙ ap (λ o. events_with kind q es ++ cond (has_key q o) (e ∷ []) []) is ∙ append-nil (events_with kind q es))

pub rows_without : (kind : Kind) (es : List Event) (e : Event) → counted_key kind e ≡ None → (qs : List Key) → map (row_in kind (es ++ e ∷ [])) qs ≡ map (row_in kind es) qs
rows_without kind es e is [] = refl
rows_without kind es e is (q ∷ qs) = ap₂ (λ r rs. r ∷ rs) (row_without kind es e is q) (rows_without kind es e is qs)

-- ---- an event that is counted

module _ (kind : Kind) (es : List Event) (e : Event) (k : Key) (is : counted_key kind e ≡ Some k) where
  found_more : (q : Key) → events_with kind q (es ++ e ∷ []) ≡ events_with kind q es ++ cond (is_eq (key_cmp q k)) (e ∷ []) []
  found_more q = filter-append (λ x. has_key q (counted_key kind x)) es (e ∷ []) ∙ ap (λ o. events_with kind q es ++ cond (has_key q o) (e ∷ []) []) is

  row_of_others : (q : Key) → is_eq (key_cmp q k) ≡ false → row_in kind (es ++ e ∷ []) q ≡ row_in kind es q
  row_of_others q apart = ap (row_from kind q) (found_more q ∙ ap (λ b. events_with kind q es ++ cond b (e ∷ []) []) apart ∙ append-nil (events_with kind q es))

  rows_of_others : (qs : List Key) → AreAbove k qs → map (row_in kind (es ++ e ∷ [])) qs ≡ map (row_in kind es) qs
  rows_of_others [] above = refl
  rows_of_others (q ∷ qs) above =
      ap₂ (λ r rs. r ∷ rs) (row_of_others q (ap is_eq (flipped k q Less above.0))) (rows_of_others qs above.1)

  found_here : (q : Key) → key_cmp q k ≡ Equal → events_with kind q (es ++ e ∷ []) ≡ events_with kind q es ++ e ∷ []
  found_here q tied = found_more q ∙ ap (λ o. events_with kind q es ++ cond (is_eq o) (e ∷ []) []) tied

  row_new : events_with kind k es ≡ [] → row_in kind (es ++ e ∷ []) k ≡ first_row kind k (address_of e)
  row_new none = ap (row_from kind k) (found_here k (tied_itself key_cmp_total k) ∙ ap (λ found. found ++ e ∷ []) none) ∙ row_first kind k e

  row_again : (q : Key) → key_cmp q k ≡ Equal → 0 < length (events_with kind q es) → row_in kind (es ++ e ∷ []) q ≡ counted_row kind (address_of e) (row_in kind es q)
  row_again q tied some = ap (row_from kind q) (found_here q tied) ∙ row_more kind q (events_with kind q es) e some

  rows_at : (j : Key) (js : List Key) → IsRising (j ∷ js) → 0 < length (events_with kind j es) → (member k (j ∷ js) ≡ false → events_with kind k es ≡ [])
      → ((member k js ≡ false → events_with kind k es ≡ []) → map (row_in kind (es ++ e ∷ [])) (key_in_order k js) ≡ with_event kind k (address_of e) (map (row_in kind es) js))
      → (o : Ordering) → key_cmp k j ≡ o
      → map (row_in kind (es ++ e ∷ [])) (match_ordering o (k ∷ j ∷ js) (j ∷ js) (j ∷ key_in_order k js))
      ≡ match_ordering o (first_row kind k (address_of e) ∷ map (row_in kind es) (j ∷ js)) (counted_row kind (address_of e) (row_in kind es j) ∷ map (row_in kind es) js)
      (row_in kind es j ∷ with_event kind k (address_of e) (map (row_in kind es) js))
  rows_at j js rising some absent rest Less below =
      let above : AreAbove k (j ∷ js) = (below, all_weaker js (λ q over. key_cmp_total.trans k j q below over) rising.0) in
      ap₂ (λ r rs. r ∷ rs) (row_new (absent (not_below k (j ∷ js) above))) (rows_of_others (j ∷ js) above)
  rows_at j js rising some absent rest Equal tied =
      let above : AreAbove k js = all_weaker js (λ q over. key_cmp_total.congr k j q tied ∙ over) rising.0 in
      ap₂ (λ r rs. r ∷ rs) (row_again j (flipped k j Equal tied) some) (rows_of_others js above)
  rows_at j js rising some absent rest Greater over =
      ap₂ (λ r rs. r ∷ rs) (row_of_others j (ap is_eq (flipped k j Greater over)))
      (rest (λ apart. absent (ap (λ o. is_eq o || member k js) over ∙ apart)))

  pub rows_with : (js : List Key) → IsRising js → ((q : Key) → member q js ≡ true → 0 < length (events_with kind q es))
      → (member k js ≡ false → events_with kind k es ≡ [])
      → map (row_in kind (es ++ e ∷ [])) (key_in_order k js) ≡ with_event kind k (address_of e) (map (row_in kind es) js)
  rows_with [] rising some absent = ap (λ r. r ∷ []) (row_new (absent refl))
  rows_with (j ∷ js) rising some absent =
      rows_at j js rising (some j (member_self j js)) absent
      (rows_with js rising.1 (λ q among. some q (among_more q j js among))) (key_cmp k j) refl
