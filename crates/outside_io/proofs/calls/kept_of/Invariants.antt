use Rattle.std.proofs.Common.{◌≡◌, drop}
use Rattle.outside_io.specs.Failing.{kept_at}
use Rattle.outside_io.proofs.calls.kept_of.Given as goal

-- the call is none of those that were seen
abbrev pub invariant-loop-fail : goal.invariant-loop-fail
invariant-loop-fail l = kept_at l.fails l.number ≡ kept_at (drop l.fail-index l.fails) l.number
