use Rattle.std.proofs.Common.{◌≡◌, ◌≢◌, ◌<◌, ◌≤◌, ℕ, zero, suc, List, [], ◌∷◌, ◌++◌, length, reverse, ap, sym, ◌∙◌, arith}
use Rattle.std.specs.List.{flat_map}
use Rattle.std.specs.Map.{values_of}
use Rattle.std.proofs.lemmas.List.{append-nil, length-map, length-append, nil_from_length}
use Rattle.module_ast.proofs.Indexed.{IsIn}
use Rattle.call_tree.specs.declared.Node.{Node}
use Rattle.call_tree.specs.declared.table.Place.{Place}
use Rattle.call_tree.specs.Counts.{nodes_of, path_counts}
use Rattle.call_tree.specs.Table.{kids, links_of, depths_of, counts_at, nexts_of, listed, paths_of, IsNodeTable}
use Rattle.call_tree.proofs.Preorder.{below, behind, step, IsTree}
use Rattle.call_tree.proofs.Trees.{table_tree}
use Rattle.call_tree.proofs.Tallies.{node_at, nodes_in_order}
use Rattle.call_tree.proofs.Held.{node_held, next_held, links_sized, counts_sized}
use Rattle.call_tree.proofs.Walks.{to_come, at_first, walked, some_left, place_waits, kids_wait, others_wait}
use Rattle.call_tree.proofs.table.Table.nodes.Goals as goal
use Rattle.call_tree.proofs.table.Table.nodes.Goals.{In-Some}

abbrev IsPlace : (n : ℕ) → ℕ → Type 0
IsPlace n p = (0 < p) × (p ≤ n)

kids_are_places : (n : ℕ) (path : ℕ → List ℕ) (tree : ℕ → List ℕ) → IsTree n path tree → (p i : ℕ) → IsIn i (tree p) → IsPlace n i
kids_are_places n path tree is p i h = let u = is.up p i h in (omega (arith, u.0), u.1)

abbrev many : List Place → ℕ
many places = length (links_of places)

abbrev node : List Place → ℕ → Node
node places = node_at (links_of places) (depths_of places) (counts_at places)

abbrev tree : List (ℕ × ℕ) → List Place → ℕ → List ℕ
tree roots places = kids (nexts_of roots places)

is_tree : (roots : List (ℕ × ℕ)) (places : List Place) → IsNodeTable (links_of places) (depths_of places) (nexts_of roots places) → IsTree (many places) (listed (paths_of (links_of places))) (tree roots places)
is_tree roots places table = table_tree (links_of places) (depths_of places) (nexts_of roots places) table

pub loop-place-init : goal.loop-place-init
loop-place-init c =
    let places = c.self.inside.places.items in
    let roots = c.self.inside.roots.entries in
    let put : c.put_kids.new.waiting.items ≡ [] ++ reverse (tree roots places 0) = c.in_ok-put_kids.ensures ∙ ap (λ l. l ++ reverse (tree roots places 0)) c.new-waiting.ensures.items in
    record {
      walked = ap (λ l. l ++ to_come (node places) (below (tree roots places) (many places)) c.put_kids.new.waiting.items) c.in_ok-nodes.ensures.items
          ∙ at_first (node places) (below (tree roots places) (many places)) c.put_kids.new.waiting.items (tree roots places 0) put;
      places = kids_wait (IsPlace (many places)) [] c.put_kids.new.waiting.items (tree roots places 0) tt put
          (kids_are_places (many places) (listed (paths_of (links_of places))) (tree roots places) (is_tree roots places c.self.invariant) 0);
    }

there : (c : In-Some) → IsPlace (many c.self.inside.places.items) c.in-Some.place
there c =
    place_waits (IsPlace (many c.self.inside.places.items)) c.loop-place.waiting.items c.pop.new.self.items c.in-Some.place
    c.loop-place.invariant.places c.in-Some.ensures.items

some : (p : ℕ) → 0 < p → p ≢ 0
some zero h = absurd (omega arith)
some (suc p) h = λ e. omega (arith, e)

pub overflow_sub-place : goal.overflow_sub-place
overflow_sub-place c = omega (arith, there (goal.at.overflow_sub-place c).In-Some)

pub index-here-requires : goal.index-here-requires
index-here-requires c =
    let s = c.self.inside in
    let w = there (goal.at.index-here-requires c).In-Some in
    omega (arith, w.0, w.1, s.places.ok.0, links_sized s.roots.entries s.places.items c.self.invariant)

step_here : (c : In-Some) → below (tree c.self.inside.roots.entries c.self.inside.places.items) (many c.self.inside.places.items) c.in-Some.place
    ≡ c.in-Some.place ∷ flat_map (below (tree c.self.inside.roots.entries c.self.inside.places.items) (many c.self.inside.places.items)) (tree c.self.inside.roots.entries c.self.inside.places.items c.in-Some.place)
step_here c =
    let places = c.self.inside.places.items in
    let roots = c.self.inside.roots.entries in
    let w = there c in
    step (many places) (listed (paths_of (links_of places))) (tree roots places) (is_tree roots places c.self.invariant) c.in-Some.place w.0 w.1

pub loop-place-smaller : goal.loop-place-smaller
loop-place-smaller c =
    let places = c.self.inside.places.items in
    let roots = c.self.inside.roots.entries in
    let more = some_left (node places) (below (tree roots places) (many places)) c.loop-place.nodes.items c.loop-place.waiting.items c.pop.new.self.items
    c.in-Some.place (tree roots places c.in-Some.place) _ c.loop-place.invariant.walked c.in-Some.ensures.items (step_here (goal.at.loop-place-smaller c).In-Some) in
    omega (arith, more, ap length c.in_ok-push.ensures.items, length-map (behind (tree roots places) (many places)) (node places), length-append {A = Node})

pub loop-place-preserved : goal.loop-place-preserved
loop-place-preserved c =
    let s = c.self.inside in
    let places = s.places.items in
    let roots = s.roots.entries in
    let in_some = (goal.at.loop-place-preserved c).In-Some in
    let here : IsPlace (many places) c.in-Some.place = there in_some in
    let long = links_sized roots places c.self.invariant in
    let within : c.in-Some.place ≤ length places = omega (arith, here.1, long) in
    let pushed : c.push.new.self.items ≡ c.loop-place.nodes.items ++ node places c.in-Some.place ∷ [] =
    c.in_ok-push.ensures.items ∙ ap (λ x. c.loop-place.nodes.items ++ x ∷ [])
    (ap (λ (p : Place). record { depth = p.depth; func = p.func; count = p.count }) c.index-here.ensures
    ∙ node_held places c.index-here.result.now c.in-Some.place (some c.in-Some.place here.0) within) in
    let put : c.put_kids-in-Some.new.waiting.items ≡ c.pop.new.self.items ++ reverse (tree roots places c.in-Some.place) =
    c.in_ok-put_kids-2.ensures
    ∙ ap (λ es. c.pop.new.self.items ++ reverse (values_of es))
    (ap (λ (p : Place). p.next.entries) c.index-here.ensures ∙ next_held places c.index-here.result.now roots c.in-Some.place (some c.in-Some.place here.0) within) in
    record {
      walked = ap (λ l. l ++ to_come (node places) (below (tree roots places) (many places)) c.put_kids-in-Some.new.waiting.items) pushed
          ∙ walked (node places) (below (tree roots places) (many places)) c.loop-place.nodes.items c.loop-place.waiting.items c.pop.new.self.items c.put_kids-in-Some.new.waiting.items c.in-Some.place
          (tree roots places c.in-Some.place) _ c.loop-place.invariant.walked c.in-Some.ensures.items put (step_here in_some);
      places = kids_wait (IsPlace (many places)) c.pop.new.self.items c.put_kids-in-Some.new.waiting.items (tree roots places c.in-Some.place)
          (others_wait (IsPlace (many places)) c.loop-place.waiting.items c.pop.new.self.items c.in-Some.place c.loop-place.invariant.places c.in-Some.ensures.items)
          put (kids_are_places (many places) (listed (paths_of (links_of places))) (tree roots places) (is_tree roots places c.self.invariant) c.in-Some.place);
    }

pub returns : goal.returns
returns c =
    let s = c.self.inside in
    let places = s.places.items in
    let roots = s.roots.entries in
    let empty : c.loop-place.waiting.items ≡ [] = nil_from_length c.loop-place.waiting.items (omega (arith, c.in_default.ensures.cases.0, c.loop-place.waiting.ok.0)) in
    sym (append-nil c.loop-place.nodes.items)
    ∙ (ap (λ l. c.loop-place.nodes.items ++ to_come (node places) (below (tree roots places) (many places)) l) (sym empty)
    ∙ (c.loop-place.invariant.walked
    ∙ (nodes_in_order (links_of places) (depths_of places) (nexts_of roots places) c.self.invariant (counts_at places) (counts_sized roots places c.self.invariant)
    ∙ ap (λ v. nodes_of (path_counts v)) c.self.view_is)))
