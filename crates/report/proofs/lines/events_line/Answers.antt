use Rattle.std.proofs.Common.{◌∙◌, codes, decimal}
use Rattle.std.proofs.lemmas.Result.{IfOk-weaker}
use Rattle.report.proofs.LineWords.{four_words}
use Rattle.report.proofs.lines.events_line.Goals as goal

pub returns : goal.returns
returns c =
    IfOk-weaker c.format.result _ _ (λ t e. e ∙ four_words (codes "events") (decimal c.args.events) (codes "stray") (decimal c.args.strays)) c.format.ensures.ok
