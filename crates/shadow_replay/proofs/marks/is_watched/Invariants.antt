use Rattle.std.proofs.Common.{◌≡◌, drop}
use Rattle.shadow_replay.specs.Taint.{is_watched}
use Rattle.shadow_replay.proofs.marks.is_watched.Given as goal

-- it is none of those so far
abbrev pub invariant-loop-other : goal.invariant-loop-other
invariant-loop-other l = is_watched l.funcs l.func ≡ is_watched (drop l.other-index l.funcs) l.func
