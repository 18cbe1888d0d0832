use Rattle.run_session.proofs.Refusals.{unfit_lengths}
use Rattle.run_session.proofs.link.fit_types.Goals as goal

pub returns-then-types-numbers : goal.returns-then-types-numbers
returns-then-types-numbers c = unfit_lengths c.args.types.now c.args.numbers.now c.if-types-numbers.true
