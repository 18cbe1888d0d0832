-- A subject that is not loaded, or what came of the rest.
use Rattle.module_ast.specs.Validation.{wide, longest_file}
use Rattle.app_load.specs.Wants.{module_read}
use Rattle.app_load.proofs.Going.{stopped}
use Rattle.wasabi_app.specs.Modes.Record.{recorded_plan}
use Rattle.wasabi_app.specs.ToldRuns.{informed}
use Rattle.wasabi_app.proofs.ToldRuns.{with_subject}
use Rattle.wasabi_app.proofs.record_mode.record_by.Goals as goal

pub returns-in-Err : goal.returns-in-Err
returns-in-Err g c = λ tools.
    (stopped (module_read c.args.given.now.subject.now longest_file wide)
    (informed c.args.info.now c.args.script.now (recorded_plan c.args.target.now c.args.given.now.bound)) _ _ tools c.in-Err.refusal (rw c.wide.ensures at c.in-Err.ensures.refused) c.load.ensures.once)

pub returns-in-Ok : goal.returns-in-Ok
returns-in-Ok g c = λ tools.
    with_subject c.args.info.now c.args.script.now (recorded_plan c.args.target.now c.args.given.now.bound) c.in-Ok.module _ _ _ tools tools
    c.record_module.result c.args.given.now.subject.now (rw c.wide.ensures at c.in-Ok.ensures.ok) c.load.ensures.once (c.record_module.ensures tools)
