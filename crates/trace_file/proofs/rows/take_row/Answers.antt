use Rattle.std.proofs.lemmas.Result.{IfErr-weaker}
use Rattle.trace_file.proofs.Tables.{none_told}
use Rattle.trace_file.proofs.rows.take_row.Goals as goal

pub returns-clause-none : goal.returns-clause-none
returns-clause-none g c =
    IfErr-weaker c.take.result _ _ (λ y none e. none_told c.args.number c.args.tag _ c.requires.same (c.requires.row _ (none e))) c.take.ensures.none
