use Rattle.std.proofs.Common.{arith}
use Rattle.rewrite_needs.specs.Temporaries.{body_temps}
use Rattle.rewrite_needs.proofs.Room.{measured_last}
use Rattle.rewrite_needs.proofs.pool.pool_of.Goals as goal

pub overflow_cast-result-2 : goal.overflow_cast-result-2
overflow_cast-result-2 c =
    let all = measured_last c.room_of-room.result (body_temps c.args.hooks c.args.site.now) c.room_of-room.ensures in omega (arith, c.requires.fits, all.0)

pub overflow_cast-result-3 : goal.overflow_cast-result-3
overflow_cast-result-3 c =
    let all = measured_last c.room_of-room.result (body_temps c.args.hooks c.args.site.now) c.room_of-room.ensures in omega (arith, c.requires.fits, all.1)

pub returns : goal.returns
returns c =
    let all = measured_last c.room_of-room.result (body_temps c.args.hooks c.args.site.now) c.room_of-room.ensures in
    λ i. record { base = c.local_count.ensures i; ints = all.0 i; longs = all.1 i }
