use Rattle.std.proofs.Common.{◌≡◌, drop}
use Rattle.shadow_replay.specs.Taint.{some_marked}
use Rattle.shadow_replay.proofs.marks.is_some_marked.Given as goal

-- those so far are not
abbrev pub invariant-loop-mark : goal.invariant-loop-mark
invariant-loop-mark l = some_marked l.marks ≡ some_marked (drop l.mark-index l.marks)
