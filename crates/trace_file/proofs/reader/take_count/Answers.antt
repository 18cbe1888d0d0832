use Rattle.std.proofs.Common.{◌∙◌, [], length, sym, ap, append-nil, arith}
use Rattle.std.proofs.lemmas.Result.{err_from_is_err_and}
use Rattle.leb_binary.specs.Shortest.{unsigned_bytes}
use Rattle.trace_file.proofs.reader.take_count.Goals as goal
use Rattle.trace_file.proofs.reader.take_count.Goals.{then-number-count-via-then-number-count, then-number-count-via-else-number-count+then-left-gt0}

pub returns-in_err-number-clause-not : goal.returns-in_err-number-clause-not
returns-in_err-number-clause-not c =
    let p = err_from_is_err_and c.from_residual.result c.from_residual.ensures.1 in
    rw p.1 (λ e few d. c.in_err-number.ensures.none (sym p.2 ∙ e) [] c.args.count (few, d ∙ sym (append-nil (unsigned_bytes c.args.count))))

pub returns-then-number-count-clause-not : goal.returns-then-number-count-clause-not
returns-then-number-count-clause-not c = λ _ few d.
    let t = c.in_ok-number.ensures.only c.args.count [] (few, d ∙ sym (append-nil (unsigned_bytes c.args.count))) in
    elim c.then-number-count.branch [
      | then-number-count-via-then-number-count w ↦ absurd (w.if-number-count.true (sym t.0))
      | then-number-count-via-else-number-count+then-left-gt0 w ↦ let none = ap length t.1 in absurd (omega arith)
    ]
