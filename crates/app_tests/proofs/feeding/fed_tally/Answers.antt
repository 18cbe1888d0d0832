-- A step that calls no hook leaves all as it was.
use Rattle.std.proofs.Common.{◌∙◌, arith, sym, subst, refl}
use Rattle.static_info.specs.Belongs.{Belongs}
use Rattle.app_tests.proofs.Quiet.{same_module, same_room, same_counts}
use Rattle.app_tests.proofs.feeding.fed_tally.Goals as goal

pub loop-init : goal.loop-init
loop-init g c = record { module_is = refl; room = c.requires.room; events = refl; strays = refl }

pub feed-requires-clause-belongs : goal.feed-requires-clause-belongs
feed-requires-clause-belongs g c = subst (Belongs c.args.info.now) (sym c.loop.invariant.module_is) c.requires.belongs

pub feed-requires-clause-room : goal.feed-requires-clause-room
feed-requires-clause-room g c = c.loop.invariant.room

pub feed-requires-clause-events : goal.feed-requires-clause-events
feed-requires-clause-events g c = omega (arith, c.loop.invariant.events)

pub feed-requires-clause-strays : goal.feed-requires-clause-strays
feed-requires-clause-strays g c = omega (arith, c.loop.invariant.strays)

pub loop-preserved : goal.loop-preserved
loop-preserved g c =
    let counts = same_counts c.args.info.now _ _ _ _ c.in-Ran.is c.in_ok-feed.ensures.counted in
    record {
      module_is = same_module c.in_ok-feed.field-0 c.loop.session c.feed.new.session c.in-Ran.is c.in_ok-feed.ensures.turn.1 ∙ c.loop.invariant.module_is;
      room = same_room _ c.args.info.now _ _ _ _ c.in-Ran.is c.in_ok-feed.ensures.fed c.loop.invariant.room;
      events = counts.0 ∙ c.loop.invariant.events;
      strays = counts.1 ∙ c.loop.invariant.strays;
    }
