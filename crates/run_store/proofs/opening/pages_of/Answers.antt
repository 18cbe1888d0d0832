use Rattle.std.proofs.Common.{rules}
use Rattle.run_store.proofs.opening.pages_of.Goals as goal

pub returns-in-Some-clause-most : goal.returns-in-Some-clause-most
returns-in-Some-clause-most c = search rules
