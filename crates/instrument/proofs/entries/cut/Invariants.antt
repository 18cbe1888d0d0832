use Rattle.instrument.proofs.PlannedEntries.{AreBegun}
use Rattle.instrument.proofs.entries.cut.Given as goal

abbrev pub invariant-loop-next : goal.invariant-loop-next
invariant-loop-next l = AreBegun l.bounds.items l.fn.first l.fn.end l.fn.jobs l.next
