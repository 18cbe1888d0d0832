use Rattle.std.proofs.Common.{refl, ap, ◌∙◌, cond, Some, ◌-◌}
use Rattle.std.specs.Map.{lookup}
use Rattle.std.specs.BTreeMap.{is_at}
use Rattle.std.specs.Ordering.{nat_cmp}
use Rattle.call_tree.proofs.Held.{on_err, links_stay, depths_stay, counts_stay, nexts_stay, roots_ordered, place_ordered, place_put, next_held}
use Rattle.call_tree.proofs.table.put_next.Goals as goal

pub returns-in_err-insert-2-clause-links : goal.returns-in_err-insert-2-clause-links
returns-in_err-insert-2-clause-links c = links_stay c.args.places.now (c.args.place - 1) c.index-places-place.result _ refl

pub returns-in_err-insert-2-clause-depths : goal.returns-in_err-insert-2-clause-depths
returns-in_err-insert-2-clause-depths c = depths_stay c.args.places.now (c.args.place - 1) c.index-places-place.result _ refl

pub returns-in_err-insert-2-clause-counts : goal.returns-in_err-insert-2-clause-counts
returns-in_err-insert-2-clause-counts c = counts_stay c.args.places.now (c.args.place - 1) c.index-places-place.result _ refl

pub returns-in_err-insert-2-clause-ordered : goal.returns-in_err-insert-2-clause-ordered
returns-in_err-insert-2-clause-ordered c = place_ordered c.args.roots.now.entries c.args.places.now _ c.args.place c.if-place-eq0.false c.requires c.in_err-insert-2.ensures.ordered

pub returns-in_ok-insert-2-clause-links : goal.returns-in_ok-insert-2-clause-links
returns-in_ok-insert-2-clause-links c = links_stay c.args.places.now (c.args.place - 1) c.index-places-place.result _ refl

pub returns-in_ok-insert-2-clause-depths : goal.returns-in_ok-insert-2-clause-depths
returns-in_ok-insert-2-clause-depths c = depths_stay c.args.places.now (c.args.place - 1) c.index-places-place.result _ refl

pub returns-in_ok-insert-2-clause-counts : goal.returns-in_ok-insert-2-clause-counts
returns-in_ok-insert-2-clause-counts c = counts_stay c.args.places.now (c.args.place - 1) c.index-places-place.result _ refl

pub returns-in_ok-insert-2-clause-ordered : goal.returns-in_ok-insert-2-clause-ordered
returns-in_ok-insert-2-clause-ordered c = place_ordered c.args.roots.now.entries c.args.places.now _ c.args.place c.if-place-eq0.false c.requires c.in_ok-insert-2.ensures.ordered

pub returns-in_err-insert-2-clause-kept : goal.returns-in_err-insert-2-clause-kept
returns-in_err-insert-2-clause-kept c =
    on_err c.from_residual-in_err-insert-2.result
    (nexts_stay c.args.places.now (c.args.place - 1) c.index-places-place.result _ c.args.roots.now.entries c.in_err-insert-2.ensures.err)

pub returns-in_ok-insert-clause-ordered : goal.returns-in_ok-insert-clause-ordered
returns-in_ok-insert-clause-ordered c = roots_ordered c.args.roots.now.entries c.insert.new.self.entries c.args.places.now c.in_ok-insert.ensures.ordered

pub returns-in_ok-insert-2-clause-put : goal.returns-in_ok-insert-2-clause-put
returns-in_ok-insert-2-clause-put c =
    place_put c.args.roots.now.entries c.args.places.now _ c.args.place c.args.func c.args.fresh c.if-place-eq0.false c.requires
    (λ f. c.in_ok-insert-2.ensures.updates.0 f ∙ ap (λ l. cond (is_at (nat_cmp c.args.func) f) (Some c.args.fresh) (lookup (is_at (nat_cmp f)) l))
    (next_held c.args.places.now c.index-places-place.result c.args.roots.now.entries c.args.place c.if-place-eq0.false c.requires))
