use Rattle.wasabi_app.proofs.Composed.{same_runs_report, outputs_report}
use Rattle.wasabi_app.proofs.laws.reports_compose.Goals as goal

pub returns : goal.returns
returns c = record { same_runs = same_runs_report; outputs = outputs_report }
