use Rattle.std.proofs.Common.{◌≡◌, take}
use Rattle.shadow_replay.specs.Replayed.{marked_values}
use Rattle.shadow_replay.proofs.marks.marked_values.Given as goal

-- those so far
abbrev pub invariant-loop-place : goal.invariant-loop-place
invariant-loop-place l = l.list.items ≡ marked_values l.mark (take l.place l.values)
