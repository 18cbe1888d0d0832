-- An event more, the end, or want of memory.
use Rattle.report.proofs.Pieces.{on_err}
use Rattle.wasabi_app.proofs.Replayed.{tools_room, tally_room, one_replayed, some_replayed, part_replayed}
use Rattle.wasabi_app.proofs.replay_mode.give_trace.Goals as goal

pub returns-in_err-reader-clause-part : goal.returns-in_err-reader-clause-part
returns-in_err-reader-clause-part g c = on_err c.from_residual.result (λ es t. absurd (c.in_err-reader.ensures.not es t))

pub returns-in_err-event-clause-part : goal.returns-in_err-event-clause-part
returns-in_err-event-clause-part g c = on_err c.from_residual-in_err-event.result (some_replayed c.loop-event.invariant.replayed)

pub give_event-requires-clause-room : goal.give_event-requires-clause-room
give_event-requires-clause-room g c = tools_room c.loop-event.invariant.replayed c.requires.short c.requires.fresh

pub give_event-requires-clause-events : goal.give_event-requires-clause-events
give_event-requires-clause-events g c = (tally_room c.loop-event.invariant.replayed c.requires.short).0

pub give_event-requires-clause-strays : goal.give_event-requires-clause-strays
give_event-requires-clause-strays g c = (tally_room c.loop-event.invariant.replayed c.requires.short).1

pub returns-in_err-give_event-clause-part : goal.returns-in_err-give_event-clause-part
returns-in_err-give_event-clause-part g c =
    on_err c.from_residual-in_err-give_event.result
    (part_replayed c.loop-event.invariant.replayed c.in-Some.event c.next.new.self _ c.in_ok-event.ensures.bytes
    (rw c.in-Some.is at c.in_ok-event.ensures.event) c.in_err-give_event.ensures.part)

pub loop-event-preserved : goal.loop-event-preserved
loop-event-preserved g c = record {
  replayed = one_replayed c.loop-event.invariant.replayed c.in-Some.event c.next.new.self _ _ c.in_ok-event.ensures.bytes
      (rw c.in-Some.is at c.in_ok-event.ensures.event) c.in_ok-give_event.ensures.fed c.in_ok-give_event.ensures.counted;
}
