use Rattle.hook_mono.proofs.Inverse.{names_differ, names_lead_back}
use Rattle.hook_mono.proofs.laws.names_differ.Goals as goal

pub returns-clause-differ : goal.returns-clause-differ
returns-clause-differ c = names_differ

pub returns-clause-back : goal.returns-clause-back
returns-clause-back c = names_lead_back
