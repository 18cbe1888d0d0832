use Rattle.std.proofs.Common.{◌≡◌, ◌+◌, ◌<◌, ◌^◌, length}
use Rattle.rewrite_needs.specs.Needing.{after_branch}
use Rattle.rewrite_needs.proofs.needs.Needs.add_ends.Given as goal

abbrev pub invariant-loop-kind : goal.invariant-loop-kind
invariant-loop-kind l = record {
  same : after_branch l.kept l.self ≡ after_branch l.kept l.initial.self;
  few : length l.self.table + length l.self.stack < 2 ^ 32;
}

abbrev pub decreases-loop-kind : goal.decreases-loop-kind
decreases-loop-kind l = length l.self.stack
