-- A script that is not loaded, or that does not link, or what came of the run.
use Rattle.std.proofs.Common.{Err}
use Rattle.std.proofs.lemmas.Result.{err_from_is_err_and}
use Rattle.wasabi_app.proofs.Linked.{fault_within, was_unlinked, was_run}
use Rattle.wasabi_app.proofs.Modes.Run.{no_script, with_script}
use Rattle.wasabi_app.proofs.run_mode.run_module.Goals as goal

pub returns-in_err-script : goal.returns-in_err-script
returns-in_err-script g c = λ tools.
    let p = err_from_is_err_and c.from_residual.result c.from_residual.ensures.1 in
    rw (p.1, p.2)
    (no_script c.args.script.now c.args.m.now _ _ tools c.in_err-script.field-0.0 c.in_err-script.ensures.refused c.in_err-script.ensures.once)

pub unlinked-requires : goal.unlinked-requires
unlinked-requires g c = λ call e. fault_within c.args.m.now c.in_ok-script.script _ call c.in-Err.ensures.refused e

pub returns-in-Ok : goal.returns-in-Ok
returns-in-Ok g c = λ tools.
    with_script c.args.script.now c.args.m.now c.in_ok-script.script _ _ tools c.told.result c.in_ok-script.ensures.ok
    c.in_ok-script.ensures.once
    (was_run c.args.m.now c.in_ok-script.script _ _ tools c.told.result c.in-Ok.ensures.links c.in-Ok.ensures.ended c.told.ensures.status
    c.told.ensures.text c.told.ensures.no_memory)

pub returns-in-Err : goal.returns-in-Err
returns-in-Err g c = λ tools.
    with_script c.args.script.now c.args.m.now c.in_ok-script.script _ _ tools (Err c.unlinked.result) c.in_ok-script.ensures.ok
    c.in_ok-script.ensures.once
    (was_unlinked c.args.m.now c.in_ok-script.script c.in-Err.fault _ _ tools c.unlinked.result c.in-Err.ensures.refused c.unlinked.ensures)
