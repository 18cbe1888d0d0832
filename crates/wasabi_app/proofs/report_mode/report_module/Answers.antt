-- An information or a script that is not loaded, or what came of the run.
use Rattle.std.proofs.lemmas.Result.{err_from_is_err_and}
use Rattle.wasabi_app.specs.Modes.Report.{reported_plan}
use Rattle.wasabi_app.proofs.report_mode.report_module.Goals as goal

pub returns-in_err-info : goal.returns-in_err-info
returns-in_err-info g c =
    let p = err_from_is_err_and c.from_residual.result c.from_residual.ensures.1 in
    rw (p.1, p.2) (c.in_err-info.ensures.refused (λ x. reported_plan c.args.given.now.kinds c.args.given.now.keeps x c.args.names.now) _)

pub returns : goal.returns
returns g c =
    c.in_ok-info.ensures.led (λ x. reported_plan c.args.given.now.kinds c.args.given.now.keeps x c.args.names.now) _ _ _ c.report_run.result (c.report_run.ensures.ended _)
