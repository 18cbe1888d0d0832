-- An information that is not loaded, or what came of the rest.
use Rattle.std.proofs.lemmas.Result.{err_from_is_err_and}
use Rattle.app_load.specs.Wants.{info_read}
use Rattle.app_load.proofs.Going.{went_on, stopped}
use Rattle.wasabi_app.specs.Modes.Tree.{tree_scripted}
use Rattle.wasabi_app.proofs.tree_mode.tree_module.Goals as goal

pub returns-in_err-info : goal.returns-in_err-info
returns-in_err-info g c = λ tools.
    let m = c.args.m.now in
    let p = err_from_is_err_and c.from_residual.result c.from_residual.ensures.1 in
    rw (p.1, p.2)
    (stopped (info_read c.args.info.now m) (tree_scripted c.args.script.now m) _ _ tools c.in_err-info.field-0.0 c.in_err-info.ensures.refused c.in_err-info.ensures.once)

pub tree_told-requires-clause-belongs : goal.tree_told-requires-clause-belongs
tree_told-requires-clause-belongs g c = c.in_ok-info.ensures.ok.spelled.1

pub returns : goal.returns
returns g c = λ tools.
    let m = c.args.m.now in
    went_on (info_read c.args.info.now m) (tree_scripted c.args.script.now m) c.in_ok-info.info _ _ _ tools tools c.tree_told.result c.in_ok-info.ensures.ok
    c.in_ok-info.ensures.once (c.tree_told.ensures tools)
