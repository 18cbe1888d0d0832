use Rattle.std.proofs.Common.{◌≡◌, ◌+◌, ◌*◌, ◌≤◌, length, drop}
use Rattle.module_ast.specs.Binary.{items_bytes, group_bytes}
use Rattle.rewrite.proofs.size.groups_length.Given as goal

abbrev pub invariant-loop-group : goal.invariant-loop-group
invariant-loop-group l = record {
  whole : l.total + length (items_bytes group_bytes (drop l.group-index l.groups)) ≡ length (items_bytes group_bytes l.groups);
  bound : l.total ≤ 11 * l.group-index;
}
