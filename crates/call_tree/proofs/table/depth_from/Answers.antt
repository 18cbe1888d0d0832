use Rattle.std.proofs.Common.{◌-◌, ◌<◌, length, arith}
use Rattle.call_tree.proofs.Held.{depth_held, depth_behind}
use Rattle.call_tree.proofs.table.depth_from.Goals as goal

pub overflow_add-result : goal.overflow_add-result
overflow_add-result c =
    let i = c.args.place - 1 in
    let within : c.args.place - 1 < length c.args.places.now = omega (arith, c.if-place-eq0.false, c.requires.known) in
    omega (arith, depth_held c.args.places.now c.index-places-place.result i within, c.requires.deep i within, c.ranges.place.fits, c.if-place-eq0.false)

pub returns-else-place-eq0 : goal.returns-else-place-eq0
returns-else-place-eq0 c = depth_behind c.args.places.now c.index-places-place.result c.args.place c.if-place-eq0.false c.requires.known
