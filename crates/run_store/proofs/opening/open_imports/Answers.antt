-- One more import is read, and the values behind the last are those of all.
use Rattle.std.proofs.Common.{arith}
use Rattle.std.proofs.lemmas.Grind.{common_steps}
use Rattle.run_store.proofs.opening.open_imports.Goals as goal

pub loop-import-preserved : goal.loop-import-preserved
loop-import-preserved c = grind (arith, common_steps)

pub returns : goal.returns
returns c = grind (arith, common_steps)
