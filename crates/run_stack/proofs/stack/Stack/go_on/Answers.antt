use Rattle.std.proofs.Common.{◌∙◌}
use Rattle.std.specs.Prelude.{reverse}
use Rattle.module_ast.specs.Structure.{code_of}
use Rattle.run_stack.proofs.Stacks.{go_on_view}
use Rattle.run_stack.proofs.stack.Stack.go_on.Goals as goal

pub returns : goal.returns
returns c =
    go_on_view (reverse c.self.inside.values.items) c.self.inside.labels.items (reverse c.self.inside.frames.items) _ _ _ c.len-innermost.result c.args.self.now (c.len-innermost.ensures ∙ c.self.inside.labels.ok.0) c.self.view_is c.requires
    c.index_mut.result.now c.resume.new.self (code_of c.args.rest.now) c.index_mut.ensures.value c.resume.ensures
