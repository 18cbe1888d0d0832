-- Each ending by its plan.
use Rattle.app_load.proofs.Telling.{tells}
use Rattle.app_load.proofs.Deciding.{decides_reads, decides_refusals, decides_effects, no_words}
use Rattle.app_load.proofs.laws.ends_tell.Goals as goal

pub returns-clause-tell : goal.returns-clause-tell
returns-clause-tell c = λ plan old new was is before after status x. tells status x

pub returns-clause-decided : goal.returns-clause-decided
returns-clause-decided c = λ plan old new was is before after status x.
    (decides_reads status x, decides_refusals status x, decides_effects status x)

pub returns-clause-refused : goal.returns-clause-refused
returns-clause-refused c = λ old new was is before after status x. no_words status x
