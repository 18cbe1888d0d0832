use Rattle.std.proofs.Common.{map, length}
use Rattle.wasabi_app.proofs.Replayed.{HasReplayed}
use Rattle.wasabi_app.proofs.replay_mode.give_trace.Given as goal

abbrev pub invariant-loop-event : goal.invariant-loop-event
invariant-loop-event g l = record {
  replayed : HasReplayed l.fn.bytes l.pick (map (λ b. (goal.Analysis-dyn g (b.vtable, b.value)).state b.value) l.fn.tools.items) l.reader
      (map (λ b. (goal.Analysis-dyn g (b.vtable, b.value)).state b.value) l.tools.items) l.tally;
}

abbrev pub decreases-loop-event : goal.decreases-loop-event
decreases-loop-event g l = length l.reader.left
