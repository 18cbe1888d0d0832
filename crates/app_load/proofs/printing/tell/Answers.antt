-- What was answered or refused, and how its line was printed.
use Rattle.app_load.proofs.Printings.{tells_answer, tells_refusal}
use Rattle.app_load.proofs.printing.tell.Goals as goal

pub returns-in-Ok : goal.returns-in-Ok
returns-in-Ok g c = λ plan old new was is o. tells_answer c.args.ending c.in-Ok.told _ _ _ c.number.ensures c.in-Ok.is c.as_slice.ensures.value o c.say.ensures

pub returns-in-Err : goal.returns-in-Err
returns-in-Err g c = λ plan old new was is o. tells_refusal c.args.ending c.in-Err.refusal _ _ c.number-in-Err.ensures c.in-Err.is o c.refuse.ensures
