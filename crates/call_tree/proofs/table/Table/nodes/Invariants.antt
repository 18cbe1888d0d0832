use Rattle.std.proofs.Common.{◌≡◌, ◌++◌, ◌-◌, ◌<◌, ◌≤◌, length, map}
use Rattle.std.specs.List.{AllByRecursion}
use Rattle.call_tree.specs.Table.{kids, nexts_of, links_of, depths_of, counts_at}
use Rattle.call_tree.proofs.Preorder.{below, behind}
use Rattle.call_tree.proofs.Tallies.{node_at}
use Rattle.call_tree.proofs.Walks.{to_come}
use Rattle.call_tree.proofs.table.Table.nodes.Given as goal

abbrev pub invariant-loop-place : goal.invariant-loop-place
invariant-loop-place l =
    let places = l.self-inside.places.items in
    let node = node_at (links_of places) (depths_of places) (counts_at places) in
    let tree = kids (nexts_of l.self-inside.roots.entries places) in
    record {
      walked : l.nodes.items ++ to_come node (below tree (length (links_of places))) l.waiting.items ≡ map node (behind tree (length (links_of places)));
      places : AllByRecursion (λ p. (0 < p) × (p ≤ length (links_of places))) l.waiting.items;
    }

abbrev pub decreases-loop-place : goal.decreases-loop-place
decreases-loop-place l =
    length (behind (kids (nexts_of l.self-inside.roots.entries l.self-inside.places.items)) (length (links_of l.self-inside.places.items))) - length l.nodes.items
