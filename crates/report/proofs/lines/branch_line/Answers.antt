use Rattle.std.proofs.Common.{◌∙◌, codes, decimal}
use Rattle.std.proofs.lemmas.Result.{IfOk-weaker}
use Rattle.report.specs.Text.{location, branch_name}
use Rattle.report.proofs.LineWords.{five_words}
use Rattle.report.proofs.lines.branch_line.Goals as goal

pub returns : goal.returns
returns c =
    IfOk-weaker c.format.result _ _
    (λ t e. e ∙ five_words (codes "branch") (location c.args.row.now.func c.args.row.now.instr) (branch_name c.args.row.now.tag)
    (decimal c.args.row.now.other) (decimal c.args.row.now.count))
    (rw (c.in_ok-place.ensures, c.branch_word-word.ensures) at c.format.ensures.ok)
