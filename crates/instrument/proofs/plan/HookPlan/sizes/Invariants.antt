use Rattle.instrument.proofs.PlannedSizes.{AreSizes}
use Rattle.instrument.proofs.plan.HookPlan.sizes.Given as goal

abbrev pub invariant-loop-size : goal.invariant-loop-size
invariant-loop-size g l = AreSizes l.self l.size-index l.together
