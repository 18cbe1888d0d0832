use Rattle.std.proofs.Common.{◌≡◌, ◌++◌, drop, map}
use Rattle.index_remap.specs.Remap.{map_index}
use Rattle.index_remap.proofs.Remap.map_funcs.Given as goal

abbrev pub invariant-loop-func : goal.invariant-loop-func
invariant-loop-func l = l.copies.items ++ map (map_index l.self) (drop l.func-index l.funcs) ≡ map (map_index l.self) l.funcs
