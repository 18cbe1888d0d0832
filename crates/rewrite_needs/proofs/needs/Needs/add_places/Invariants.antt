use Rattle.std.proofs.Common.{length}
use Rattle.rewrite_needs.proofs.Needing.{IsUnderway}
use Rattle.rewrite_needs.proofs.needs.Needs.add_places.Given as goal

abbrev pub invariant-loop-place : goal.invariant-loop-place
invariant-loop-place l = IsUnderway l.initial.self.hooks l.site l.self l.walk.left

abbrev pub decreases-loop-place : goal.decreases-loop-place
decreases-loop-place l = length l.walk.left
