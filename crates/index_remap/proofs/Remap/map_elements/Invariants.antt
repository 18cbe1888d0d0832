use Rattle.std.proofs.Common.{◌≡◌, ◌++◌, drop, map}
use Rattle.index_remap.specs.Remap.{map_element}
use Rattle.index_remap.proofs.Remap.map_elements.Given as goal

abbrev pub invariant-loop-element : goal.invariant-loop-element
invariant-loop-element l = l.copies.items ++ map (map_element l.self) (drop l.element-index l.elements) ≡ map (map_element l.self) l.elements
