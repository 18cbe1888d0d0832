use Rattle.wasabi_app.proofs.Composed.{kept_names_come_back}
use Rattle.wasabi_app.proofs.KeptNames.{dropped_names}
use Rattle.wasabi_app.proofs.laws.names_are_kept.Goals as goal

pub returns : goal.returns
returns c = record { dropped = dropped_names; kept = kept_names_come_back }
