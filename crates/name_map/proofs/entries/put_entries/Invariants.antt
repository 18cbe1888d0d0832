use Rattle.std.proofs.Common.{◌≡◌, ◌++◌, drop}
use Rattle.module_ast.specs.Binary.{items_bytes}
use Rattle.name_map.proofs.entries.put_entries.Given as goal

abbrev pub invariant-loop-entry : goal.invariant-loop-entry
invariant-loop-entry g l =
    l.out.items ++ items_bytes g.E.Entry.bytes (drop l.entry-index l.entries) ≡ l.initial.out.items ++ items_bytes g.E.Entry.bytes l.entries
