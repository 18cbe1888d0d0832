use Rattle.std.proofs.Common.{◌∙◌, sym}
use Rattle.run_stack.proofs.Controls.{end_can, end_comes}
use Rattle.run_stack.proofs.control.fall.Goals as goal

pub branch-stack-requires : goal.branch-stack-requires
branch-stack-requires c =
    let r = c.requires in end_can c.args.stack.now r.0 r.1 r.2 r.3 r.4 (sym c.labels_of_frame.ensures ∙ c.if-labels_of_frame-eq1.true) r.5

pub returns-then-labels_of_frame-eq1-clause-comes : goal.returns-then-labels_of_frame-eq1-clause-comes
returns-then-labels_of_frame-eq1-clause-comes c inst e fr below lies r =
    end_comes c.args.stack.now inst e fr below lies (sym c.labels_of_frame.ensures ∙ c.if-labels_of_frame-eq1.true) c.branch-stack.new.self r c.branch-stack.ensures.branches
