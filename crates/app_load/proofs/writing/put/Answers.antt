-- Why bytes were not written.
use Rattle.std.proofs.Common.{rules}
use Rattle.app_load.specs.Texts.{unwritten_text}
use Rattle.app_load.specs.Writing.{PutCause, put_failed, put_no_memory}
use Rattle.app_load.proofs.Going.{told_as}
use Rattle.app_load.proofs.writing.put.Goals as goal

pub returns-in-Err-Failed-clause-refused : goal.returns-in-Err-Failed-clause-refused
returns-in-Err-Failed-clause-refused g c =
    told_as (PutCause c.args.name.now c.args.bytes.now _ _) 5 (unwritten_text c.args.name.now) _ (c.refused.ensures _ c.format.ensures.ok)
    (put_failed (search rules) c.in-Err-Failed.ensures.part) (put_no_memory c.in-Err-Failed.ensures.part)

pub returns-in-Err-NoMemory-clause-refused : goal.returns-in-Err-NoMemory-clause-refused
returns-in-Err-NoMemory-clause-refused g c = put_no_memory c.in-Err-NoMemory.ensures.part
