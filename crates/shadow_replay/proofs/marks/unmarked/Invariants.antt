use Rattle.std.proofs.Common.{◌≡◌, ◌++◌, drop, false}
use Rattle.shadow_replay.specs.Replayed.{marked_values}
use Rattle.shadow_replay.proofs.marks.unmarked.Given as goal

-- those so far and those to come are all of them
abbrev pub invariant-loop-value : goal.invariant-loop-value
invariant-loop-value l = l.list.items ++ marked_values false (drop l.value-index l.values) ≡ marked_values false l.values
