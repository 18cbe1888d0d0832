use Rattle.run_stack.proofs.Stacks.{close_view}
use Rattle.std.specs.Prelude.{reverse, vec_capacity}
use Rattle.std.proofs.Common.{◌∙◌}
use Rattle.run_stack.proofs.stack.Stack.close.Goals as goal

pub returns : goal.returns
returns c =
    close_view (reverse c.self.inside.values.items) c.self.inside.labels.items (reverse c.self.inside.frames.items) _ _ _ c.len.result c.args.self.now (c.len.ensures ∙ c.self.inside.labels.ok.0) c.self.view_is c.requires
    c.truncate.new.self.items (vec_capacity c.truncate.new.self) c.truncate.ensures.items c.truncate.ensures.capacity
