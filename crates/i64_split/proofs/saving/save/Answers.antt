use Rattle.i64_split.specs.Split.{temps_from}
use Rattle.i64_split.proofs.Saved.{save_part}
use Rattle.i64_split.proofs.saving.save.Goals as goal

pub returns-in_err-push_sets_of-clause-prefix : goal.returns-in_err-push_sets_of-clause-prefix
returns-in_err-push_sets_of-clause-prefix c =
    save_part _ _ (temps_from c.args.pool.now c.args.skip 0 c.args.types.now) c.push_sets_of.ensures.prefix
