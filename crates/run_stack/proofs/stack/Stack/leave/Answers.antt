use Rattle.std.proofs.Common.{◌∙◌, ◌-◌, ap, sym, take}
use Rattle.std.specs.Prelude.{reverse, vec_capacity}
use Rattle.run_stack.specs.Flat.{Base, kept}
use Rattle.run_stack.proofs.Stacks.{leave_view}
use Rattle.run_stack.proofs.stack.Stack.leave.Goals as goal

pub returns : goal.returns
returns c =
    leave_view c.self.inside.values.items c.self.inside.labels.items c.self.inside.frames.items _ _ _ c.len.result c.args.self.now (c.len.ensures ∙ c.self.inside.frames.ok.0) c.self.view_is c.index-frame.result.now c.args.arity
    c.keep.new.values.items c.truncate.new.self.items c.truncate-2.new.self.items (vec_capacity c.keep.new.values) (vec_capacity c.truncate.new.self) (vec_capacity c.truncate-2.new.self) c.requires.some c.index-frame.ensures
    (c.keep.ensures.items ∙ ap (λ (b : Base). kept c.args.arity b.values (reverse c.self.inside.values.items)) c.frame.view_is)
    (c.truncate.ensures.items ∙ ap (λ (b : Base). take b.labels c.self.inside.labels.items) c.frame.view_is)
    (c.truncate-2.ensures.items ∙ ap (λ n. take (n - 1) c.self.inside.frames.items) (c.len-2.ensures ∙ sym c.len.ensures))
    c.keep.ensures.capacity c.truncate.ensures.capacity c.truncate-2.ensures.capacity
