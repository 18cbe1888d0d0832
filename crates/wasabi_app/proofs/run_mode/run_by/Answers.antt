-- A subject that is not loaded, or what came of the rest.
use Rattle.wasabi_app.proofs.Modes.Run.{no_subject, with_subject}
use Rattle.wasabi_app.proofs.run_mode.run_by.Goals as goal

pub returns-in-Err : goal.returns-in-Err
returns-in-Err g c = λ tools.
    (no_subject c.args.given.now.subject.now c.args.script.now _ _ tools c.in-Err.refusal (rw c.wide.ensures at c.in-Err.ensures.refused)
    c.load.ensures.once)

pub returns-in-Ok : goal.returns-in-Ok
returns-in-Ok g c = λ tools.
    with_subject c.args.given.now.subject.now c.args.script.now c.in-Ok.module _ _ _ tools c.run_module.result (rw c.wide.ensures at c.in-Ok.ensures.ok)
    c.load.ensures.once (c.run_module.ensures tools)
