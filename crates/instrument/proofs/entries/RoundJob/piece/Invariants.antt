use Rattle.std.proofs.Common.{◌≡◌, ◌≤◌}
use Rattle.instrument.specs.Pieces.{entries_at}
use Rattle.instrument.proofs.entries.RoundJob.piece.Given as goal

abbrev pub invariant-loop-defined : goal.invariant-loop-defined
invariant-loop-defined g l = (l.entries.items ≡ entries_at l.self.plan.now l.from l.defined) × (l.from ≤ l.defined)
