use Rattle.std.proofs.Common.{arith}
use Rattle.report.specs.Text.{report_text}
use Rattle.report.proofs.Pieces.{on_err, part_of_head, printed_row, printed_row_part, printed_front, printed_head}
use Rattle.report.proofs.write.write_report.Goals as goal

pub loop-row-init : goal.loop-row-init
loop-row-init g c = record {
  printed = printed_head c.args.kind c.args.rows.now _ _ (rw (c.as_str.ensures.value, c.in_ok-first_line.ensures) at c.in_ok-put_line.ensures.printed);
  count = c.in_ok-put_line.ensures.count;
}

pub loop-row-preserved : goal.loop-row-preserved
loop-row-preserved g c = record {
  printed = printed_row c.args.kind (report_text c.args.kind c.args.rows.now) c.args.rows.now c.loop-row.row-index _ _ _ c.loop-row-test.true c.loop-row.invariant.printed
      (rw (c.as_str-in-loop-row.ensures.value, c.in_ok-line_of_row.ensures) at c.in_ok-put_line-2.ensures.printed);
  count = omega (arith, c.loop-row.invariant.count, c.in_ok-put_line-2.ensures.count);
}

pub returns-in_err-line_of_row-clause-part : goal.returns-in_err-line_of_row-clause-part
returns-in_err-line_of_row-clause-part g c = on_err _ (printed_front c.args.kind (report_text c.args.kind c.args.rows.now) _ _ _ c.loop-row.invariant.printed)

pub returns-in_err-put_line-clause-part : goal.returns-in_err-put_line-clause-part
returns-in_err-put_line-clause-part g c =
    on_err _ (part_of_head c.args.kind c.args.rows.now _ _ (rw (c.as_str.ensures.value, c.in_ok-first_line.ensures) at c.in_err-put_line.ensures.part))

pub returns-in_err-put_line-2-clause-part : goal.returns-in_err-put_line-2-clause-part
returns-in_err-put_line-2-clause-part g c =
    on_err _
    (printed_row_part c.args.kind (report_text c.args.kind c.args.rows.now) c.args.rows.now c.loop-row.row-index _ _ _ c.loop-row-test.true c.loop-row.invariant.printed
    (rw (c.as_str-in-loop-row.ensures.value, c.in_ok-line_of_row.ensures) at c.in_err-put_line-2.ensures.part))
