use Rattle.std.proofs.Common.{arith, length, ap}
use Rattle.std.specs.Prelude.{reverse}
use Rattle.std.proofs.lemmas.List.{length_push}
use Rattle.ctrl_stack.proofs.Pops.{nested_lower, nested_base}
use Rattle.ctrl_stack.proofs.stack.CtrlStack.push.Goals as goal

pub invariant_of-self-2 : goal.invariant_of-self-2
invariant_of-self-2 c =
    let frames = reverse c.self.inside.frames.items in
    let items = c.self.inside.operands.items in
    nested_lower frames (length items) _ (omega (arith, nested_base frames (length items) c.self.invariant, ap length c.in_ok-push.ensures.items, length_push items c.args.ty)) c.self.invariant
