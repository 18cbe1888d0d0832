use Rattle.std.proofs.Common.{◌≡◌, ◌++◌, drop}
use Rattle.index_remap.proofs.copies.copy_parts.Given as goal

abbrev pub invariant-loop-part : goal.invariant-loop-part
invariant-loop-part g l = l.copies.items ++ drop l.part-index l.items ≡ l.parts
