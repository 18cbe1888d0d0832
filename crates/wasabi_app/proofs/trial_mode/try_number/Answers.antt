-- A made module can be tried.
use Rattle.std.proofs.Common.{Some, arith, subst, sym}
use Rattle.app_load.proofs.Going.{no_memory}
use Rattle.wasabi_app.specs.Trying.{IsTriable}
use Rattle.wasabi_app.specs.Modes.Trial.{trial_plan}
use Rattle.wasabi_app.proofs.Modes.Trial.{of_number}
use Rattle.wasabi_app.proofs.TrialPairs.{made_triable}
use Rattle.wasabi_app.proofs.trial_mode.try_number.Goals as goal

pub try_module-requires-clause-triable : goal.try_module-requires-clause-triable
try_module-requires-clause-triable g c = λ _ _. subst IsTriable (sym c.in-Ok.ensures) (made_triable c.args.number)

pub try_module-requires-clause-firsts : goal.try_module-requires-clause-firsts
try_module-requires-clause-firsts g c = λ _ _. (omega arith, omega arith)

pub try_module-requires-clause-seconds : goal.try_module-requires-clause-seconds
try_module-requires-clause-seconds g c = λ _ _. (omega arith, omega arith)

pub returns-in-Ok : goal.returns-in-Ok
returns-in-Ok g c = λ at. of_number c.args.number _ at _ _ c.try_module.result c.in-Ok.ensures (c.try_module.ensures at)

pub returns-in-Err : goal.returns-in-Err
returns-in-Err g c = λ at. no_memory (Some (trial_plan c.args.number)) at _
