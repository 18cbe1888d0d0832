use Rattle.std.proofs.Common.{◌≡◌, ◌≤◌, length, take}
use Rattle.outside_io.specs.Log.{log_contents}
use Rattle.outside_io.proofs.memory_disk.latest.Given as goal

-- the changes that were passed do not touch the place
abbrev pub invariant-loop-at : goal.invariant-loop-at
invariant-loop-at l = record {
  within : l.at ≤ length l.log;
  rest : log_contents l.log l.place ≡ log_contents (take l.at l.log) l.place;
}

abbrev pub decreases-loop-at : goal.decreases-loop-at
decreases-loop-at l = l.at
