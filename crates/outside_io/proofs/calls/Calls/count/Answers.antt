use Rattle.std.proofs.Common.{arith}
use Rattle.outside_io.specs.Calls.{calls_made}
use Rattle.outside_io.proofs.Counting.{listed_below-length, listed_below-next, made-next}
use Rattle.outside_io.proofs.calls.Calls.count.Goals as goal

-- no more calls are listed than the list is long
pub returns-in_err-number-clause-room : goal.returns-in_err-number-clause-room
returns-in_err-number-clause-room c =
    let fails = c.self.inside.fails in
    rw (← c.self.view_is) (omega (arith, fails.ok, fails.small, listed_below-length fails.items (calls_made c.self.inside.next)))

-- the call that was made is counted where it is listed
pub returns-clause-made : goal.returns-clause-made
returns-clause-made c =
    let next = made-next c.in_ok-number.number c.checked_add-self-inside.result (omega arith) c.checked_add-self-inside.ensures in
    rw (← c.self.view_is, next, c.in_ok-number.was, c.kept_of.ensures, c.deref.ensures.value)
    (listed_below-next c.self.inside.fails.items c.in_ok-number.number)

pub returns-clause-room : goal.returns-clause-room
returns-clause-room c =
    let fails = c.self.inside.fails in
    omega (arith, fails.ok, fails.small, listed_below-length fails.items (calls_made c.checked_add-self-inside.result))
