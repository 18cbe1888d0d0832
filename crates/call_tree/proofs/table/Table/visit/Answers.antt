use Rattle.std.proofs.Common.{◌≡◌, ℕ, List, set, ◌≤◌, ◌-◌, ◌+◌, ◌<◌, ◌++◌, [], ◌∷◌, suc, Some, None, cond, take, drop, length, slice_index, ap, ap₂, sym, ◌∙◌, rules, refl, subst, arith}
use Rattle.std.specs.Ordering.{nat_cmp}
use Rattle.std.specs.List.Sorted.{IsStrictlySortedBy}
use Rattle.std.specs.Map.{lookup, keys_of}
use Rattle.std.specs.BTreeMap.{is_at}
use Rattle.std.proofs.lemmas.List.{length-set, length-map, map-append}
use Rattle.call_tree.specs.Counts.{path_at, with_entry, entry_at, CountsPathsUpTo}
use Rattle.call_tree.specs.declared.table.Place.{Place}
use Rattle.call_tree.specs.Table.{link, links_of, depths_of, counts_at, nexts_of, place_by, is_link, depth_from, paths_of, tallied, IsChildBy, IsNodeTable}
use Rattle.call_tree.proofs.Tallies.{entry_tallied, same_length}
use Rattle.call_tree.proofs.Held.{count_held, links_stay, depths_stay, nexts_stay, counted_view, same_table, written, nexts_longer, counts_sized, links_sized, view_sized}
use Rattle.call_tree.proofs.Visits.{once_more, stands_there, first_time, stands_last, with_place}
use Rattle.call_tree.proofs.table.Table.visit.Goals as goal
use Rattle.call_tree.proofs.table.Table.visit.Goals.{After-self, In-Some, In_default, After-put_next, After-unwrap}

-- the place is one of the table
known : (c : After-self) → c.args.place ≤ length c.self.inside.places.items
known c = let s = c.self.inside in omega (arith, c.requires.known, ap length c.self.view_is, view_sized s.roots.entries s.places.items c.self.invariant)

pub next_place-requires : goal.next_place-requires
next_place-requires c = omega (arith, known (goal.at.next_place-requires c).After-self, ap length c.as_slice.ensures.value)

-- the place that is found
led : (c : In-Some) → IsChildBy (links_of c.self.inside.places.items) (link c.args.place c.args.func) c.in-Some.found
led c =
    c.self.invariant.led (link c.args.place c.args.func) c.in-Some.found
    (ap (λ l. place_by (nexts_of c.self.inside.roots.entries l) (link c.args.place c.args.func)) (sym c.as_slice.ensures.value) ∙ (sym c.next_place.ensures ∙ c.in-Some.is))

found_within : (c : In-Some) → c.in-Some.found - 1 < length c.self.inside.places.items
found_within c = let w = led c in omega (arith, w.1, w.2, links_sized c.self.inside.roots.entries c.self.inside.places.items c.self.invariant)

pub overflow_sub-found : goal.overflow_sub-found
overflow_sub-found c = let w = led (goal.at.overflow_sub-found c).In-Some in omega (arith, w.1)

pub index_mut-requires : goal.index_mut-requires
index_mut-requires c = omega (arith, found_within (goal.at.index_mut-requires c).In-Some, c.self.inside.places.ok.0)

pub overflow_add-index_mut : goal.overflow_add-index_mut
overflow_add-index_mut c =
    let s = c.self.inside in
    let places = s.places.items in
    let i = c.in-Some.found - 1 in
    let read : c.index_mut.result.now.count ≡ slice_index (counts_at places) i =
    ap (λ (p : Place). p.count) c.index_mut.ensures.value ∙ count_held places c.index_mut.result.now i (found_within (goal.at.overflow_add-index_mut c).In-Some) in
    let room = c.requires.room in
    let bound : (entry_at (tallied (paths_of (links_of places)) (counts_at places)) i).1 ≤ room.0 = subst (λ v. CountsPathsUpTo room.0 v) (sym c.self.view_is) room.2 i in
    let sized = counts_sized s.roots.entries places c.self.invariant in
    let entry = ap (λ (x : List ℕ × ℕ). x.1) (entry_tallied (paths_of (links_of places)) (counts_at places) i
    (same_length (links_of places) (depths_of places) (nexts_of s.roots.entries places) c.self.invariant (counts_at places) sized)) in
    omega (arith, read, bound, entry, room.1)

pub invariant_of-self : goal.invariant_of-self
invariant_of-self c =
    let places = c.self.inside.places.items in
    let roots = c.self.inside.roots.entries in
    let i = c.in-Some.found - 1 in
    let now = c.index_mut.result.now in
    let read = c.index_mut.ensures.value in
    same_table (links_of places) _ (depths_of places) _ (nexts_of roots places) _ (links_stay places i now _ (ap (λ (p : Place). link p.from p.func) read))
    (depths_stay places i now _ (ap (λ (p : Place). p.depth) read)) (nexts_stay places i now _ roots (ap (λ (p : Place). p.next.entries) read)) c.self.invariant

pub returns-in-Some-clause-counted : goal.returns-in-Some-clause-counted
returns-in-Some-clause-counted c =
    let s = c.self.inside in
    let places = s.places.items in
    let i = c.in-Some.found - 1 in
    let read : slice_index (counts_at places) i ≡ c.index_mut.result.now.count =
    sym (ap (λ (p : Place). p.count) c.index_mut.ensures.value ∙ count_held places c.index_mut.result.now i (found_within (goal.at.returns-in-Some-clause-counted c).In-Some)) in
    counted_view places i c.index_mut.result.now c.index_mut.ensures.value
    ∙ (once_more (links_of places) (depths_of places) (nexts_of s.roots.entries places) c.self.invariant (counts_at places) (counts_sized s.roots.entries places c.self.invariant) c.args.place c.args.func c.in-Some.found
    c.index_mut.result.now.count (led (goal.at.returns-in-Some-clause-counted c).In-Some) read
    ∙ ap (λ v. with_entry (path_at v c.args.place ++ c.args.func ∷ []) v) c.self.view_is)

pub returns-in-Some-clause-there : goal.returns-in-Some-clause-there
returns-in-Some-clause-there c =
    let s = c.self.inside in
    let places = s.places.items in
    let i = c.in-Some.found - 1 in
    let h = stands_there (links_of places) (depths_of places) (nexts_of s.roots.entries places) c.self.invariant (counts_at places) (counts_sized s.roots.entries places c.self.invariant) c.args.place c.args.func
    c.in-Some.found (set (counts_at places) i (c.index_mut.result.now.count + 1)) (led (goal.at.returns-in-Some-clause-there c).In-Some) (length-set (counts_at places) i (c.index_mut.result.now.count + 1)) in
    let view = counted_view places i c.index_mut.result.now c.index_mut.ensures.value in (
      subst (λ v. c.in-Some.found ≤ length v) (sym view) h.0,
      ap (λ v. path_at v c.in-Some.found) view ∙ (h.1 ∙ ap (λ v. path_at v c.args.place ++ c.args.func ∷ []) c.self.view_is),
    )

pub depth_from-depth-requires-clause-known : goal.depth_from-depth-requires-clause-known
depth_from-depth-requires-clause-known c = omega (arith, known (goal.at.depth_from-depth-requires-clause-known c).After-self, ap length c.as_slice-2.ensures.value)

pub put_next-requires : goal.put_next-requires
put_next-requires c = omega (arith, known (goal.at.put_next-requires c).After-self, ap length c.as_mut_slice.ensures.value, ap length c.in_ok-reserve.ensures.items)

pub unwrap-requires : goal.unwrap-requires
unwrap-requires c = search rules

-- nothing leads on from the place by the function
none : (c : In_default) → place_by (nexts_of c.self.inside.roots.entries c.self.inside.places.items) (link c.args.place c.args.func) ≡ None
none c =
    ap (λ l. place_by (nexts_of c.self.inside.roots.entries l) (link c.args.place c.args.func)) (sym c.as_slice.ensures.value) ∙ (sym c.next_place.ensures ∙ c.in_default.is)

-- as many places as before
same_many : (c : After-put_next) → length c.put_next.new.places ≡ c.reserve.new.self.len
same_many c =
    let links = ap length c.put_next.ensures.links in
    omega (
      arith,
      links,
      length-map c.put_next.new.places (λ (p : Place). link p.from p.func),
      length-map c.as_mut_slice.result.now (λ (p : Place). link p.from p.func),
      ap length c.as_mut_slice.ensures.value,
      ap length c.in_ok-reserve.ensures.items,
      c.in_ok-reserve.ensures.len,
      c.self.inside.places.ok.0,
    )

pub invariant_of-self-in_err-put_next : goal.invariant_of-self-in_err-put_next
invariant_of-self-in_err-put_next c =
    let s = c.self.inside in
    let places = s.places.items in
    let begun : c.as_mut_slice.result.now ≡ places = c.as_mut_slice.ensures.value ∙ c.in_ok-reserve.ensures.items in
    let back = written c.reserve.new.self.len c.put_next.new.places c.reserve.new.self.items (same_many (goal.at.invariant_of-self-in_err-put_next c).After-put_next) in
    subst (λ l. IsNodeTable (links_of l) (depths_of l) (nexts_of c.put_next.new.roots.entries l)) (sym back)
    (same_table (links_of places) _ (depths_of places) _ (nexts_of s.roots.entries places) _ (c.in_err-put_next.ensures.links ∙ ap links_of begun) (c.in_err-put_next.ensures.depths ∙ ap depths_of begun)
    (c.in_err-put_next.ensures.kept ∙ ap (nexts_of s.roots.entries) begun) c.self.invariant)

-- what stands once the new place is pushed
pushed : (c : After-unwrap) → c.push.new.self.items ≡ c.put_next.new.places ++ record { from = c.args.place; func = c.args.func; depth = c.depth_from-depth.result; count = 1; next = c.new.result } ∷ []
pushed c =
    let p : Place = record { from = c.args.place; func = c.args.func; depth = c.depth_from-depth.result; count = 1; next = c.new.result } in
    let back = written c.reserve.new.self.len c.put_next.new.places c.reserve.new.self.items (same_many (goal.at.invariant_of-self-2 c).After-put_next) in
    let end : c.push.new.self.items ≡ take c.reserve.new.self.len (c.put_next.new.places ++ drop (length c.put_next.new.places) c.reserve.new.self.items) ++ p ∷ [] = search rules in
    end ∙ ap (λ l. l ++ p ∷ []) back

links_pushed : (c : After-unwrap) → links_of c.push.new.self.items ≡ links_of c.self.inside.places.items ++ link c.args.place c.args.func ∷ []
links_pushed c =
    ap links_of (pushed c) ∙ (map-append (λ (p : Place). link p.from p.func) c.put_next.new.places _
    ∙ ap (λ l. l ++ link c.args.place c.args.func ∷ []) (c.in_ok-put_next.ensures.links ∙ ap links_of (c.as_mut_slice.ensures.value ∙ c.in_ok-reserve.ensures.items)))

depths_pushed : (c : After-unwrap) → depths_of c.push.new.self.items ≡ depths_of c.self.inside.places.items ++ depth_from (depths_of c.self.inside.places.items) c.args.place ∷ []
depths_pushed c =
    ap depths_of (pushed c) ∙ (map-append (λ (p : Place). p.depth) c.put_next.new.places _
    ∙ ap₂ (λ l d. l ++ d ∷ []) (c.in_ok-put_next.ensures.depths ∙ ap depths_of (c.as_mut_slice.ensures.value ∙ c.in_ok-reserve.ensures.items))
    (c.depth_from-depth.ensures ∙ ap (λ l. depth_from (depths_of l) c.args.place) c.as_slice-2.ensures.value))

counts_pushed : (c : After-unwrap) → counts_at c.push.new.self.items ≡ counts_at c.self.inside.places.items ++ 1 ∷ []
counts_pushed c =
    ap counts_at (pushed c) ∙ (map-append (λ (p : Place). p.count) c.put_next.new.places _
    ∙ ap (λ l. l ++ 1 ∷ []) (c.in_ok-put_next.ensures.counts ∙ ap counts_at (c.as_mut_slice.ensures.value ∙ c.in_ok-reserve.ensures.items)))

nexts_pushed : (c : After-unwrap) (p : ℕ) → nexts_of c.put_next.new.roots.entries c.push.new.self.items p ≡ nexts_of c.put_next.new.roots.entries c.put_next.new.places p
nexts_pushed c p = ap (λ l. nexts_of c.put_next.new.roots.entries l p) (pushed c) ∙ nexts_longer c.put_next.new.roots.entries c.put_next.new.places _ c.new.ensures.empty p

fresh_is : (c : After-unwrap) → c.len-fresh.result + 1 ≡ suc (length (links_of c.self.inside.places.items))
fresh_is c =
    let s = c.self.inside in
    omega (arith, c.len-fresh.ensures, c.in_ok-reserve.ensures.len, s.places.ok.0, links_sized s.roots.entries s.places.items c.self.invariant)

pub invariant_of-self-2 : goal.invariant_of-self-2
invariant_of-self-2 c =
    let s = c.self.inside in
    let places = s.places.items in
    let roots = s.roots.entries in
    let begun : c.as_mut_slice.result.now ≡ places = c.as_mut_slice.ensures.value ∙ c.in_ok-reserve.ensures.items in
    let in_default = (goal.at.invariant_of-self-2 c).In_default in
    let long = links_sized roots places c.self.invariant in
    same_table (links_of places ++ link c.args.place c.args.func ∷ []) _ (depths_of places ++ depth_from (depths_of places) c.args.place ∷ []) _ _ _ (links_pushed c) (depths_pushed c) refl
    (with_place (links_of places) (depths_of places) (nexts_of roots places) c.self.invariant (counts_at places) (counts_sized roots places c.self.invariant) c.args.place c.args.func
    (omega (arith, known (goal.at.invariant_of-self-2 c).After-self, long)) (none in_default) (nexts_of c.put_next.new.roots.entries c.push.new.self.items)
    (λ l. ap (lookup (is_at (nat_cmp l.func))) (nexts_pushed c l.from)
    ∙ (c.in_ok-put_next.ensures.put l
    ∙ ap₂ (λ (n : ℕ) (ps : List Place). cond (is_link (link c.args.place c.args.func) l) (Some n) (place_by (nexts_of roots ps) l)) (fresh_is c) begun))
    (λ p. subst (λ es. IsStrictlySortedBy nat_cmp (keys_of es)) (sym (nexts_pushed c p))
    (c.in_ok-put_next.ensures.ordered (λ q. subst (λ ps. IsStrictlySortedBy nat_cmp (keys_of (nexts_of roots ps q))) (sym begun) (c.self.invariant.ordered q)) p)))

-- the list with the new path
view_pushed : (c : After-unwrap) → tallied (paths_of (links_of c.push.new.self.items)) (counts_at c.push.new.self.items)
    ≡ tallied (paths_of (links_of c.self.inside.places.items ++ link c.args.place c.args.func ∷ [])) (counts_at c.self.inside.places.items ++ 1 ∷ [])
view_pushed c = ap₂ (λ l n. tallied (paths_of l) n) (links_pushed c) (counts_pushed c)

pub returns-clause-counted : goal.returns-clause-counted
returns-clause-counted c =
    let s = c.self.inside in
    let places = s.places.items in
    let roots = s.roots.entries in
    view_pushed c
    ∙ (first_time (links_of places) (depths_of places) (nexts_of roots places) c.self.invariant (counts_at places) (counts_sized roots places c.self.invariant) c.args.place c.args.func
    (omega (arith, known (goal.at.returns-clause-counted c).After-self, links_sized roots places c.self.invariant)) (none (goal.at.returns-clause-counted c).In_default)
    ∙ ap (λ v. with_entry (path_at v c.args.place ++ c.args.func ∷ []) v) c.self.view_is)

pub returns-clause-there : goal.returns-clause-there
returns-clause-there c =
    let s = c.self.inside in
    let places = s.places.items in
    let roots = s.roots.entries in
    let h = stands_last (links_of places) (depths_of places) (nexts_of roots places) c.self.invariant (counts_at places) (counts_sized roots places c.self.invariant) c.args.place c.args.func
    (omega (arith, known (goal.at.returns-clause-there c).After-self, links_sized roots places c.self.invariant)) (none (goal.at.returns-clause-there c).In_default) in (
      omega (arith, fresh_is c, h.0, ap length (view_pushed c)),
      ap₂ (λ (v : List (List ℕ × ℕ)) (k : ℕ). path_at v k) (view_pushed c) (fresh_is c) ∙ (h.1 ∙ ap (λ v. path_at v c.args.place ++ c.args.func ∷ []) c.self.view_is),
    )
