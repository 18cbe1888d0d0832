use Rattle.std.proofs.Common.{arith, rules}
use Rattle.app_load.specs.Printing.{said, said_part, said_no_memory}
use Rattle.app_load.proofs.printing.say.Goals as goal

pub returns-in-Ok : goal.returns-in-Ok
returns-in-Ok g c = said c.in-Ok.ensures.printed c.in-Ok.ensures.once

pub returns-in-Err-Failed : goal.returns-in-Err-Failed
returns-in-Err-Failed g c = said_part (search rules) c.in-Err-Failed.ensures.part c.in-Err-Failed.ensures.once

pub returns-in-Err-NoMemory : goal.returns-in-Err-NoMemory
returns-in-Err-NoMemory g c = said_no_memory 1 (omega arith) c.in-Err-NoMemory.ensures.part c.in-Err-NoMemory.ensures.once
