use Rattle.std.proofs.Common.{◌≡◌, ◌++◌, flat_map, length}
use Rattle.static_info.specs.Info.{place_blocks, place_tables, live_blocks, live_tables}
use Rattle.static_info.proofs.gather.gather.Given as goal

abbrev pub invariant-loop-walk : goal.invariant-loop-walk
invariant-loop-walk l = record {
  blocks : l.all.blocks.items ++ flat_map place_blocks l.walk.left ≡ live_blocks l.code;
  tables : l.all.tables.items ++ flat_map place_tables l.walk.left ≡ live_tables l.code;
}

abbrev pub decreases-loop-walk : goal.decreases-loop-walk
decreases-loop-walk l = length l.walk.left
