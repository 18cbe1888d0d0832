-- An information that lacks begin or end, a script that is not loaded, or what came of the run.
use Rattle.std.proofs.Common.{◌∙◌, sym, Err}
use Rattle.std.proofs.lemmas.Result.{err_from_is_err_and}
use Rattle.app_load.specs.Wants.{script_read}
use Rattle.app_load.proofs.Going.{stopped}
use Rattle.wasabi_app.specs.Modes.Tree.{treed_plan}
use Rattle.wasabi_app.proofs.Modes.Tree.{was_short, with_brackets}
use Rattle.wasabi_app.proofs.ToldRuns.{with_script}
use Rattle.wasabi_app.proofs.tree_mode.tree_told.Goals as goal

pub returns-then-not-tells_brackets : goal.returns-then-not-tells_brackets
returns-then-not-tells_brackets g c = λ tools.
    was_short c.args.script.now c.args.m.now c.args.info.now _ tools c.refused.result
    (sym c.tells_brackets.ensures ∙ c.if-not-tells_brackets.true) (c.refused.ensures _ c.few_groups_line.ensures)

pub returns-in_err-script : goal.returns-in_err-script
returns-in_err-script g c = λ tools.
    let m = c.args.m.now in
    let info = c.args.info.now in
    let p = err_from_is_err_and c.from_residual.result c.from_residual.ensures.1 in
    rw (p.1, p.2)
    (with_brackets c.args.script.now m info _ _ tools tools (Err c.in_err-script.field-0.0) (sym c.tells_brackets.ensures ∙ c.if-not-tells_brackets.false)
    (stopped (script_read c.args.script.now) (treed_plan m info) _ _ tools c.in_err-script.field-0.0 c.in_err-script.ensures.refused c.in_err-script.ensures.once))

pub returns : goal.returns
returns g c = λ tools.
    let m = c.args.m.now in
    let info = c.args.info.now in
    with_brackets c.args.script.now m info _ _ tools tools c.tree_loaded.result (sym c.tells_brackets.ensures ∙ c.if-not-tells_brackets.false)
    (with_script c.args.script.now treed_plan m _ _ _ tools tools c.tree_loaded.result info c.in_ok-script.script c.in_ok-script.ensures.ok c.in_ok-script.ensures.once (c.tree_loaded.ensures _ tools))
