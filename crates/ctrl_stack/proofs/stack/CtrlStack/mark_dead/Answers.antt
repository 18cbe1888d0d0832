use Rattle.std.proofs.Common.{◌≡◌, ◌<◌, List, length, ◌-◌, arith, ap, ◌∙◌}
use Rattle.ctrl_stack.specs.Stack.{Stack, dead_from_here}
use Rattle.std.specs.Prelude.{reverse}
use Rattle.std.proofs.lemmas.List.{length-reverse}
use Rattle.ctrl_stack.specs.declared.frame.Frame.{Frame}
use Rattle.ctrl_stack.proofs.Frames.{marked_nested, marked_view}
use Rattle.ctrl_stack.proofs.stack.CtrlStack.mark_dead.Goals as goal

-- there is one
frames : (fs gs : List Frame) → reverse fs ≡ gs → 0 < length gs → 0 < length fs
frames fs gs e h = omega (arith, ap length e, length-reverse fs)

pub invariant_of-self : goal.invariant_of-self
invariant_of-self c =
    marked_nested c.self.inside.frames.items (c.len-innermost.result - 1) c.index_mut-frame.result.now c.self.inside.operands.items c.truncate.new.self.items
    (omega (arith, frames c.self.inside.frames.items c.args.self.now.frames (ap (λ (s : Stack). s.frames) c.self.view_is) c.requires)) c.index_mut-frame.ensures.value c.truncate.ensures.items c.self.invariant

pub returns : goal.returns
returns c =
    marked_view c.self.inside.frames.items (c.len-innermost.result - 1) c.index_mut-frame.result.now c.self.inside.operands.items c.truncate.new.self.items
    (omega (arith, frames c.self.inside.frames.items c.args.self.now.frames (ap (λ (s : Stack). s.frames) c.self.view_is) c.requires)) c.index_mut-frame.ensures.value c.truncate.ensures.items ∙ ap dead_from_here c.self.view_is
