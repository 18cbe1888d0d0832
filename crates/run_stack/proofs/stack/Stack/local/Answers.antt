use Rattle.run_stack.specs.Flat.{Base}
use Rattle.run_stack.proofs.Stacks.{local_view}
use Rattle.std.proofs.Common.{◌+◌, get_or, ◌∙◌, ap}
use Rattle.std.specs.Prelude.{reverse}
use Rattle.run_stack.proofs.stack.Stack.local.Goals as goal

pub returns : goal.returns
returns c =
    local_view c.self.inside.values.items (reverse c.self.inside.labels.items) c.self.inside.frames.items _ _ _ c.len.result c.args.index c.index-frame.result.now c.args.self.now c.index.result.now (c.len.ensures ∙ c.self.inside.frames.ok.0) c.self.view_is c.requires.some
    c.index-frame.ensures c.requires.within (c.index.ensures ∙ ap (λ (b : Base). get_or c.self.inside.values.items (b.values + c.args.index) c.index.result.now) c.frame.view_is)
