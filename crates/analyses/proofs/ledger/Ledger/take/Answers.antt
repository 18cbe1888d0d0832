use Rattle.std.proofs.Common.{arith, ◌≡◌, ap}
use Rattle.analyses.proofs.Entries.{counts_up_to_more}
use Rattle.analyses.proofs.ledger.Ledger.take.Goals as goal
use Rattle.analyses.proofs.ledger.Ledger.take.Goals.{in-Some+in_ok-count_under, in_default}

pub count_under-requires : goal.count_under-requires
count_under-requires c = let event_count : c.self.inside.taken ≡ c.args.self.now.event_count = ap (λ s. s.event_count) c.self.view_is in (c.self.inside.taken, omega (arith, event_count), c.self.invariant)

pub invariant_of-self-2 : goal.invariant_of-self-2
invariant_of-self-2 c = elim c.match-heading_of.branch [
  | in-Some+in_ok-count_under w ↦ rw w.self-inside-is (w.count_under.ensures.bounded c.self.inside.taken c.self.invariant)
  | in_default w ↦ rw w.self-inside-is (counts_up_to_more _ _ c.self.invariant)
]
