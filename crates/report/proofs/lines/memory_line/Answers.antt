use Rattle.std.proofs.Common.{◌∙◌, codes, decimal}
use Rattle.std.proofs.lemmas.Result.{IfOk-weaker}
use Rattle.report.specs.Text.{location, access_name}
use Rattle.report.proofs.LineWords.{six_words}
use Rattle.report.proofs.lines.memory_line.Goals as goal

pub returns : goal.returns
returns c =
    IfOk-weaker c.format.result _ _
    (λ t e. e ∙ six_words (codes "memory") (location c.args.row.now.func c.args.row.now.instr) (access_name c.args.row.now.tag)
    (decimal c.args.row.now.count) (decimal c.args.row.now.least) (decimal c.args.row.now.greatest))
    (rw (c.in_ok-place.ensures, c.access_word-word.ensures) at c.format.ensures.ok)
