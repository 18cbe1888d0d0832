use Rattle.instrument.proofs.Unhooked.{left_out_copied}
use Rattle.instrument.proofs.laws.left_out_functions_are_copied.Goals as goal

pub returns : goal.returns
returns c = record { copied = left_out_copied }
