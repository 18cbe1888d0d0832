use Rattle.std.proofs.Common.{◌≡◌, fold, map, take, flat_map}
use Rattle.std.specs.Hash as fed
use Rattle.hook_mono.specs.Orders.{type_number}
use Rattle.hook_mono.proofs.compare.feed_types.Given as goal

abbrev pub invariant-loop-ty : goal.invariant-loop-ty
invariant-loop-ty g l = l.state ≡ fold g.H.Hasher.write l.fn.state (flat_map fed.u8 (map type_number (take l.ty-index l.types)))
