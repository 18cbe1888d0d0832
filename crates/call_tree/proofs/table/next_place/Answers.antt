use Rattle.std.proofs.Common.{ap, ◌∙◌}
use Rattle.std.specs.Map.{lookup}
use Rattle.std.specs.BTreeMap.{is_at}
use Rattle.std.specs.Ordering.{nat_cmp}
use Rattle.call_tree.proofs.Held.{next_held}
use Rattle.call_tree.proofs.table.next_place.Goals as goal

pub returns-else-place-eq0 : goal.returns-else-place-eq0
returns-else-place-eq0 c =
    c.copied-else-place-eq0.ensures ∙ (c.get-else-place-eq0.ensures.value
    ∙ ap (lookup (is_at (nat_cmp c.args.func))) (next_held c.args.places.now c.index-places-place.result c.args.roots.now.entries c.args.place c.if-place-eq0.false c.requires))
