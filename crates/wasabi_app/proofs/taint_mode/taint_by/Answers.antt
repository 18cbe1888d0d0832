-- A subject that is not loaded, or what came of it.
use Rattle.module_ast.specs.Validation.{narrow, longest_narrow_file}
use Rattle.app_load.specs.Wants.{module_read}
use Rattle.app_load.proofs.Going.{stopped, went_on}
use Rattle.wasabi_app.specs.Modes.Taint.{followed_plan}
use Rattle.wasabi_app.specs.Words.{given_of}
use Rattle.wasabi_app.proofs.Tagged.{followable}
use Rattle.wasabi_app.proofs.taint_mode.taint_by.Goals as goal

pub returns-in-Err : goal.returns-in-Err
returns-in-Err g c = λ tools.
    stopped (module_read c.args.given.now.subject.now longest_narrow_file narrow) (followed_plan (given_of c.args.given.now) c.args.script.now) _ _ tools
    c.in-Err.refusal (rw c.narrow.ensures at c.in-Err.ensures.refused) c.load.ensures.once

pub taint_module-requires-clause-followable : goal.taint_module-requires-clause-followable
taint_module-requires-clause-followable g c =
    let is = rw c.narrow.ensures at c.in-Ok.ensures.ok in
    λ _ _. followable is.bytes c.in-Ok.valid is.spelled.1 is.spelled.0.within is.read_well.short is.spelled.0.spelled

pub returns-in-Ok : goal.returns-in-Ok
returns-in-Ok g c = λ tools.
    went_on (module_read c.args.given.now.subject.now longest_narrow_file narrow) (followed_plan (given_of c.args.given.now) c.args.script.now) c.in-Ok.valid
    _ _ _ tools tools c.taint_module.result (rw c.narrow.ensures at c.in-Ok.ensures.ok) c.load.ensures.once (c.taint_module.ensures tools)
