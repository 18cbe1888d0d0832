-- An information or a script that is not loaded, or both.
use Rattle.std.proofs.Common.{Err}
use Rattle.std.proofs.lemmas.Result.{err_from_is_err_and}
use Rattle.app_load.specs.Wants.{script_read, info_read}
use Rattle.app_load.proofs.Going.{stopped}
use Rattle.wasabi_app.specs.ToldRuns.{scripted}
use Rattle.wasabi_app.proofs.ToldRuns.{with_info, with_script}
use Rattle.wasabi_app.proofs.told_run.load_run.Goals as goal

pub returns-in_err-info-clause-refused : goal.returns-in_err-info-clause-refused
returns-in_err-info-clause-refused g c =
    let m = c.args.m.now in
    let p = err_from_is_err_and c.from_residual.result c.from_residual.ensures.1 in
    rw (p.1, p.2)
    (λ next tools. stopped (info_read c.args.info_name.now m) (scripted c.args.script_name.now next m) _ _ tools c.in_err-info.field-0.0 c.in_err-info.ensures.refused c.in_err-info.ensures.once)

pub returns-in_err-script-clause-refused : goal.returns-in_err-script-clause-refused
returns-in_err-script-clause-refused g c =
    let m = c.args.m.now in
    let info = c.in_ok-info.info in
    let p = err_from_is_err_and c.from_residual-in_err-script.result c.from_residual-in_err-script.ensures.1 in
    rw (p.1, p.2)
    (λ next tools. with_info c.args.info_name.now c.args.script_name.now next m _ _ _ tools tools (Err c.in_err-script.field-0.0) info c.in_ok-info.ensures.ok c.in_ok-info.ensures.once
    (stopped (script_read c.args.script_name.now) (next m info) _ _ tools c.in_err-script.field-0.0 c.in_err-script.ensures.refused
    c.in_err-script.ensures.once))

pub returns-clause-led : goal.returns-clause-led
returns-clause-led g c = λ next new was is result y.
    let m = c.args.m.now in
    let info = c.in_ok-info.info in
    with_info c.args.info_name.now c.args.script_name.now next m _ _ _ was is result info c.in_ok-info.ensures.ok c.in_ok-info.ensures.once
    (with_script c.args.script_name.now next m _ _ _ was is result info c.in_ok-script.script c.in_ok-script.ensures.ok c.in_ok-script.ensures.once y)

pub returns-clause-belongs : goal.returns-clause-belongs
returns-clause-belongs g c = c.in_ok-info.ensures.ok.spelled.1
