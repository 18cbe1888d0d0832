use Rattle.std.proofs.Common.{◌≡◌, ◌++◌, drop, map}
use Rattle.index_remap.specs.Remap.{map_index}
use Rattle.name_map.proofs.entries.map_entries.Given as goal

abbrev pub invariant-loop-entry : goal.invariant-loop-entry
invariant-loop-entry g l =
    l.mapped.items ++ map (λ e. g.E.Entry.with_index (map_index l.remap (g.E.Entry.index e)) e) (drop l.entry-index l.entries)
    ≡ map (λ e. g.E.Entry.with_index (map_index l.remap (g.E.Entry.index e)) e) l.entries
