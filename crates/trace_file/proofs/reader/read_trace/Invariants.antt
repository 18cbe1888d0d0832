use Rattle.std.proofs.Common.{◌≡◌, length}
use Rattle.trace_file.specs.Files.{HasRead}
use Rattle.trace_file.proofs.reader.read_trace.Given as goal

abbrev pub decreases-loop-events : goal.decreases-loop-events
decreases-loop-events l = length l.reader.left

abbrev pub invariant-loop-events : goal.invariant-loop-events
invariant-loop-events l = record {
  bytes : l.reader.bytes ≡ l.bytes;
  read : HasRead l.events.items l.reader;
}
