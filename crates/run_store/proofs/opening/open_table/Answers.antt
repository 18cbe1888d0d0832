-- The slots behind the last element are those of the table.
use Rattle.std.proofs.Common.{arith}
use Rattle.std.proofs.lemmas.Grind.{common_steps}
use Rattle.wasm_sem.proofs.SoundMemory.{overlay_length}
use Rattle.run_store.proofs.opening.open_table.Goals as goal

pub returns : goal.returns
returns c = grind (arith, common_steps)

pub loop-element-preserved : goal.loop-element-preserved
loop-element-preserved c = record { fits = grind (arith, common_steps, overlay_length); told = grind (arith, common_steps) }
