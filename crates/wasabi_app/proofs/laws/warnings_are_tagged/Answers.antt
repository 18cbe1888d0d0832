use Rattle.wasabi_app.proofs.Tagged.{warnings_are_tagged, taints_tell}
use Rattle.wasabi_app.proofs.laws.warnings_are_tagged.Goals as goal

pub returns : goal.returns
returns c = record { tagged = warnings_are_tagged; prints = taints_tell }
