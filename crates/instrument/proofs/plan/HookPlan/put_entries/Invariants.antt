use Rattle.std.proofs.Common.{◌≡◌, ◌++◌, ◌-◌, ◌≤◌}
use Rattle.instrument.specs.Pieces.{entries_at}
use Rattle.instrument.proofs.plan.HookPlan.put_entries.Given as goal

abbrev pub invariant-loop-first : goal.invariant-loop-first
invariant-loop-first g l = (l.out.items ≡ l.initial.out.items ++ entries_at l.self 0 l.first) × (l.first ≤ l.count)

abbrev pub decreases-loop-first : goal.decreases-loop-first
decreases-loop-first g l = l.count - l.first
