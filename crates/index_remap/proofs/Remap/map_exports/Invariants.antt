use Rattle.std.proofs.Common.{◌≡◌, ◌++◌, drop, map}
use Rattle.index_remap.specs.Remap.{map_export}
use Rattle.index_remap.proofs.Remap.map_exports.Given as goal

abbrev pub invariant-loop-export : goal.invariant-loop-export
invariant-loop-export l = l.copies.items ++ map (map_export l.self) (drop l.export-index l.exports) ≡ map (map_export l.self) l.exports
