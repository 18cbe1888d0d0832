use Rattle.std.proofs.Common.{◌≤◌, drop}
use Rattle.report.specs.Text.{report_text}
use Rattle.report.proofs.Pieces.{PrintedBefore}
use Rattle.report.proofs.write.write_report.Given as goal

abbrev pub invariant-loop-row : goal.invariant-loop-row
invariant-loop-row g l = record {
  printed : PrintedBefore l.kind (report_text l.kind l.rows) (drop l.row-index l.rows) (g.K.Sink.seen l.fn.sink).text (g.K.Sink.seen l.sink).text;
  count : (g.K.Sink.seen l.fn.sink).faults ≤ (g.K.Sink.seen l.sink).faults;
}
