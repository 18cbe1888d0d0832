use Rattle.std.proofs.Common.{◌≡◌, ◌++◌, drop}
use Rattle.shadow_replay.specs.Stacked.{marks_in}
use Rattle.shadow_replay.specs.Taint.{argument_warnings}
use Rattle.shadow_replay.proofs.marks.argument_warnings.Given as goal

-- those so far and those to come are all of them
abbrev pub invariant-loop-argument : goal.invariant-loop-argument
invariant-loop-argument l = l.warnings.items ++ argument_warnings l.loc l.import l.argument (marks_in (drop l.argument l.args)) ≡ argument_warnings l.loc l.import 0 (marks_in l.args)
