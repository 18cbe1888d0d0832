-- It may get hooks.
use Rattle.std.proofs.Common.{ap}
use Rattle.hook_select.specs.Selections.{everywhere}
use Rattle.wasabi_app.proofs.Modes.Trial.{few_of}
use Rattle.app_tests.proofs.shadows.hooked.Goals as goal

pub instrument-requires-clause-limits : goal.instrument-requires-clause-limits
instrument-requires-clause-limits g c = λ _ _. c.requires.limits

pub instrument-requires-clause-short : goal.instrument-requires-clause-short
instrument-requires-clause-short g c = λ _ _. c.requires.short

pub returns-in-Ok-clause-few : goal.returns-in-Ok-clause-few
returns-in-Ok-clause-few g c = few_of c.args.m.now (everywhere c.all.result) _ _ (ap everywhere c.all.ensures) c.in-Ok.ensures.made c.in-Ok.ensures.fits
