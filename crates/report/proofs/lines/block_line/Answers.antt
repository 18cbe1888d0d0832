use Rattle.std.proofs.Common.{◌∙◌, codes, decimal}
use Rattle.std.proofs.lemmas.Result.{IfOk-weaker}
use Rattle.report.specs.Text.{location, part_name}
use Rattle.report.proofs.LineWords.{four_words}
use Rattle.report.proofs.lines.block_line.Goals as goal

pub returns : goal.returns
returns c =
    IfOk-weaker c.format.result _ _
    (λ t e. e ∙ four_words (codes "block") (location c.args.row.now.func c.args.row.now.instr) (part_name c.args.row.now.tag)
    (decimal c.args.row.now.count))
    (rw (c.in_ok-place.ensures, c.part_word-part.ensures) at c.format.ensures.ok)
