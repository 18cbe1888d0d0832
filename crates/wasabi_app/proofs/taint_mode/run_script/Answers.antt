-- A script that is not read, or what came of the run by it.
use Rattle.std.proofs.lemmas.Result.{err_from_is_err_and}
use Rattle.wasabi_app.specs.Warning.{watch_in}
use Rattle.wasabi_app.proofs.Modes.Taint.{scripted, unscripted}
use Rattle.wasabi_app.proofs.taint_mode.run_script.Goals as goal

pub returns-in_err-script : goal.returns-in_err-script
returns-in_err-script g c = λ tools.
    let p = err_from_is_err_and c.from_residual.result c.from_residual.ensures.1 in
    rw (p.1, p.2)
    (unscripted c.args.script.now (watch_in c.args.watched.now) c.args.m.now _ _ tools c.in_err-script.field-0.0 c.in_err-script.ensures.refused
    c.in_err-script.ensures.once)

pub returns : goal.returns
returns g c = λ tools.
    scripted c.args.script.now (watch_in c.args.watched.now) c.args.m.now c.in_ok-script.script _ _ tools c.run_made.result c.in_ok-script.ensures.ok
    c.load_script.ensures.once (c.run_made.ensures.ended _ tools)
