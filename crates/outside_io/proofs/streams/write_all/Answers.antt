use Rattle.std.proofs.Common.{arith, length-take, length-drop}
use Rattle.outside_io.proofs.Written.{written_more}
use Rattle.outside_io.proofs.streams.write_all.Goals as goal

-- one more piece is written
pub loop-done-preserved : goal.loop-done-preserved
loop-done-preserved g c = record {
  within = grind (arith, c.in_ok-taken.ensures.bound, length-take, length-drop);
  written = written_more _ _ _ c.args.bytes.now c.loop-done.done c.in_ok-taken.taken
      c.in_ok-taken.ensures.bound c.loop-done.invariant.written c.in_ok-taken.ensures.bytes;
}
