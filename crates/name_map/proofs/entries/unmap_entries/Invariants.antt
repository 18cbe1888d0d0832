use Rattle.std.proofs.Common.{◌≡◌, ◌++◌, drop, filter_map, option_map}
use Rattle.index_remap.specs.Remap.{unmap_index}
use Rattle.name_map.proofs.entries.unmap_entries.Given as goal

abbrev pub invariant-loop-entry : goal.invariant-loop-entry
invariant-loop-entry g l =
    l.unmapped.items ++ filter_map (λ e. option_map (λ i. g.E.Entry.with_index i e) (unmap_index l.remap (g.E.Entry.index e))) (drop l.entry-index l.entries)
    ≡ filter_map (λ e. option_map (λ i. g.E.Entry.with_index i e) (unmap_index l.remap (g.E.Entry.index e))) l.entries
