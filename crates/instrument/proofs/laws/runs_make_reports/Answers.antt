use Rattle.instrument.proofs.Reports.{reports_compose}
use Rattle.instrument.proofs.laws.runs_make_reports.Goals as goal

pub returns : goal.returns
returns c = record { reports = reports_compose }
