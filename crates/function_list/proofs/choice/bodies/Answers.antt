use Rattle.function_list.proofs.Marking.{body_more}
use Rattle.function_list.proofs.choice.bodies.Goals as goal

pub loop-func-preserved : goal.loop-func-preserved
loop-func-preserved c = body_more _ c.loop-func.func c.loop-func.flags.items c.push.new.self.items c.body_flag.result c.in_ok-push.ensures.items c.loop-func.invariant c.body_flag.ensures
