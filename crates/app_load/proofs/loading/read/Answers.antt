-- What the shelf answered.
use Rattle.std.proofs.Common.{arith, rules}
use Rattle.app_load.specs.Texts.{missing_text, too_long_text, unread_text}
use Rattle.app_load.specs.Wants.{missing, too_long, unread, unread_no_memory}
use Rattle.app_load.proofs.Loaded.{read_refused}
use Rattle.app_load.proofs.loading.read.Goals as goal

pub returns-in-Ok-clause-ok : goal.returns-in-Ok-clause-ok
returns-in-Ok-clause-ok g c = λ want. record { there = c.in-Ok.ensures.given; short = omega (arith, c.in-Ok.ensures.within) }

pub returns-in-Err-Missing-clause-refused : goal.returns-in-Err-Missing-clause-refused
returns-in-Err-Missing-clause-refused g c = λ want.
    read_refused _ _ _ 3 (missing_text c.args.name.now) _ (c.refused.ensures _ c.format.ensures.ok) (missing (search rules))

pub returns-in-Err-TooLong-clause-refused : goal.returns-in-Err-TooLong-clause-refused
returns-in-Err-TooLong-clause-refused g c = λ want.
    read_refused _ _ _ 3 (too_long_text c.args.name.now _) _ (c.refused-in-Err-TooLong.ensures _ c.format-in-Err-TooLong.ensures.ok) (too_long _ (search rules))

pub returns-in-Err-Failed-clause-refused : goal.returns-in-Err-Failed-clause-refused
returns-in-Err-Failed-clause-refused g c = λ want.
    read_refused _ _ _ 4 (unread_text c.args.name.now) _ (c.refused-in-Err-Failed.ensures _ c.format-in-Err-Failed.ensures.ok) (unread (search rules))

pub returns-in-Err-NoMemory-clause-refused : goal.returns-in-Err-NoMemory-clause-refused
returns-in-Err-NoMemory-clause-refused g c = λ want. unread_no_memory
