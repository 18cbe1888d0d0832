use Rattle.std.proofs.Common.{ap, ◌-◌, ◌∙◌}
use Rattle.std.specs.List.{copy_within}
use Rattle.run_stack.proofs.Lists.{reverse-kept}
use Rattle.run_stack.proofs.stack.keep.Goals as goal

pub returns-clause-items : goal.returns-clause-items
returns-clause-items c =
    reverse-kept c.args.values.now.items c.copy_within.new.self.items c.truncate.new.self.items (c.len.result - c.args.count) c.args.height c.args.count
    (ap (λ n. n - c.args.count) (c.len.ensures ∙ c.args.values.now.ok.0)) c.requires
    (c.copy_within.ensures.items ∙ ap (λ n. copy_within c.args.values.now.items (c.len.result - c.args.count) n c.args.height) c.args.values.now.ok.0) c.truncate.ensures.items
