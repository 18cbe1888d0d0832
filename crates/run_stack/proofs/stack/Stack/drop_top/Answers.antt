use Rattle.std.proofs.Common.{◌∙◌}
use Rattle.std.specs.Prelude.{reverse, vec_capacity}
use Rattle.run_stack.proofs.Stacks.{drop_view}
use Rattle.run_stack.proofs.stack.Stack.drop_top.Goals as goal

pub returns : goal.returns
returns c =
    drop_view c.self.inside.values.items c.truncate.new.self.items (reverse c.self.inside.labels.items) (reverse c.self.inside.frames.items) _ _ _ (vec_capacity c.truncate.new.self) c.len.result c.args.count c.args.self.now (c.len.ensures ∙ c.self.inside.values.ok.0) c.self.view_is c.requires
    c.truncate.ensures.items c.truncate.ensures.capacity
