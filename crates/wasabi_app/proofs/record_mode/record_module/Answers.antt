-- An information or a script that is not loaded, or what came of the run.
use Rattle.std.proofs.lemmas.Result.{err_from_is_err_and}
use Rattle.wasabi_app.specs.Modes.Record.{recorded_plan}
use Rattle.wasabi_app.proofs.record_mode.record_module.Goals as goal

pub returns-in_err-info : goal.returns-in_err-info
returns-in_err-info g c = λ tools.
    let p = err_from_is_err_and c.from_residual.result c.from_residual.ensures.1 in
    rw (p.1, p.2) (c.in_err-info.ensures.refused (recorded_plan c.args.target.now c.args.bound) tools)

pub returns : goal.returns
returns g c = λ tools.
    c.in_ok-info.ensures.led (recorded_plan c.args.target.now c.args.bound) _ tools tools c.record_loaded.result
    (c.record_loaded.ensures tools)
