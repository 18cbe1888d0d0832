use Rattle.std.proofs.Common.{arith}
use Rattle.function_list.proofs.Marking.{begins, next_one}
use Rattle.function_list.proofs.mark.mark_named.Goals as goal

pub loop-named-init : goal.loop-named-init
loop-named-init c = begins c.args.m.now c.args.flag _ c.args.flags.now

pub loop-named-preserved : goal.loop-named-preserved
loop-named-preserved c =
    next_one c.args.m.now c.args.flag _ c.args.names.now c.loop-named.named-index c.named-item.result _ c.args.flags.now c.loop-named.flags c.mark_name.new.flags
    (omega arith) c.named-item.is c.loop-named.invariant c.mark_name.ensures
