use Rattle.wasabi_app.proofs.Nesting.{nodes_count, bad_refused, outputs_nest}
use Rattle.wasabi_app.proofs.laws.trees_tell.Goals as goal

pub returns : goal.returns
returns c = record { counts = nodes_count; refusals = bad_refused; outputs = outputs_nest c.traces_nest.ensures.nested }
