use Rattle.std.proofs.Common.{◌≡◌, ◌≤◌, map, drop, length}
use Rattle.serde_json.specs.View.{members_view}
use Rattle.static_info.specs.Shape.{keys_of, same_names}
use Rattle.static_info.proofs.parsing.are_keys.Given as goal

abbrev pub invariant-loop-key : goal.invariant-loop-key
invariant-loop-key l =
    let names = map (λ n. n.now) l.names in
    (l.place ≤ length l.names) × (same_names names (keys_of (members_view l.members.entries)) ≡ same_names (drop l.place names) (keys_of (members_view l.key-iterator)))
