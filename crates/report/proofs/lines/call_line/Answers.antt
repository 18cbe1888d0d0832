use Rattle.std.proofs.Common.{◌∙◌}
use Rattle.std.proofs.lemmas.Result.{IfOk-weaker}
use Rattle.report.proofs.LineWords.{callee_line, no_callee_line}
use Rattle.report.proofs.lines.call_line.Goals as goal

pub returns-in-Some : goal.returns-in-Some
returns-in-Some c =
    IfOk-weaker c.format.result _ _ (λ t e. e ∙ callee_line c.args.row.now c.in-Some.callee c.in-Some.ensures.0 c.in-Some.ensures.1) c.format.ensures.ok

pub returns-in-None : goal.returns-in-None
returns-in-None c = IfOk-weaker c.format-in-None.result _ _ (λ t e. e ∙ no_callee_line c.args.row.now c.in-None.ensures) c.format-in-None.ensures.ok
