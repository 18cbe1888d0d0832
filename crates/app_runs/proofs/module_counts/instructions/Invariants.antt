use Rattle.std.proofs.Common.{◌≡◌, take}
use Rattle.app_runs.specs.Texts.{instruction_count}
use Rattle.app_runs.proofs.module_counts.instructions.Given as goal

abbrev pub invariant-loop-body : goal.invariant-loop-body
invariant-loop-body l = l.count ≡ instruction_count (take l.body-index l.bodies)
