use Rattle.wasabi_app.proofs.Handed.{written_is_taken}
use Rattle.wasabi_app.proofs.laws.written_is_taken.Goals as goal

pub returns : goal.returns
returns c = record { taken = written_is_taken }
