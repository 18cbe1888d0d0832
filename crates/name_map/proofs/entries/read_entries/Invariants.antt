use Rattle.std.proofs.Common.{◌≡◌, length, map}
use Rattle.module_ast.proofs.Compose.{Read}
use Rattle.name_map.specs.NameMaps.{rises_from}
use Rattle.name_map.proofs.Forms.{after}
use Rattle.name_map.proofs.entries.read_entries.Given as goal

abbrev pub invariant-loop-i : goal.invariant-loop-i
invariant-loop-i g l = record {
  items : Read g.E.Entry.is l.initial.cursor.left l.cursor.left l.entries.items;
  many : length l.entries.items ≡ l._i;
  rising : l.rises ≡ rises_from 0 (map g.E.Entry.index l.entries.items);
  next : l.least ≡ after 0 (map g.E.Entry.index l.entries.items);
}
