use Rattle.std.proofs.Common.{ap, arith}
use Rattle.call_tree.proofs.States.{counts_stay}
use Rattle.call_tree.proofs.tree.Tree.take.Goals as goal
use Rattle.call_tree.proofs.tree.Tree.take.Goals.{in-Begin+in_ok-self-inside-in-Begin, in-End+in-Some, in_default}

pub begin-requires-clause-room : goal.begin-requires-clause-room
begin-requires-clause-room c =
    let taken = ap (λ s. s.taken) c.self.view_is in
    (c.self.inside.taken, omega (arith, taken, c.requires), c.self.invariant.bound)

pub invariant_of-self-2 : goal.invariant_of-self-2
invariant_of-self-2 c = elim c.match-event.branch [
  | in-Begin+in_ok-self-inside-in-Begin w ↦
      let done = w.in_ok-self-inside-in-Begin.ensures in
      rw w.self-inside-is (record { there = done.there; bound = done.bound c.self.inside.taken c.self.invariant.bound })
  | in-End+in-Some w ↦ rw w.self-inside-is (record { there = w.in-Some.ensures.there; bound = counts_stay _ _ c.self.invariant.bound })
  | in_default w ↦ rw w.self-inside-is (record { there = c.self.invariant.there; bound = counts_stay _ _ c.self.invariant.bound })
]
