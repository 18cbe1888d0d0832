use Rattle.std.proofs.Common.{arith}
use Rattle.std.proofs.lemmas.Grind.{common_steps}
use Rattle.i64_split.proofs.Saved.{save_part}
use Rattle.i64_split.proofs.saving.save_in.Goals as goal

pub returns-in_err-push_sets-clause-prefix : goal.returns-in_err-push_sets-clause-prefix
returns-in_err-push_sets-clause-prefix c = save_part _ _ c.args.temps.now c.push_sets.ensures.prefix

pub returns-clause-added : goal.returns-clause-added
returns-clause-added c = grind (arith, common_steps)

pub returns-clause-prefix : goal.returns-clause-prefix
returns-clause-prefix c = grind (arith, common_steps)
