-- A run that is not recorded, or whose trace was to be written.
use Rattle.std.proofs.lemmas.Result.{err_from_is_err_and}
use Rattle.wasabi_app.proofs.Modes.Record.{was_recorded, was_unwritten}
use Rattle.wasabi_app.proofs.record_mode.record_loaded.Goals as goal

pub returns-in_err-told : goal.returns-in_err-told
returns-in_err-told g c = λ tools.
    let p = err_from_is_err_and c.from_residual.result c.from_residual.ensures.1 in
    rw (p.1, p.2) (c.in_err-told.ensures.refused c.args.target.now _ tools)

pub returns-in_err-put : goal.returns-in_err-put
returns-in_err-put g c = λ tools.
    let p = err_from_is_err_and c.from_residual-in_err-put.result c.from_residual-in_err-put.ensures.1 in
    rw (p.1, p.2)
    (was_unwritten c.args.target.now c.args.bound c.args.m.now c.args.info.now c.args.script c.in_ok-told.ensures.links c.in_ok-told.field-0.trace.items
    c.in_ok-told.ensures.trace c.in_ok-told.ensures.within _ _ tools c.in_err-put.field-0.0 c.in_err-put.ensures.once
    (rw c.as_slice.ensures.value at c.in_err-put.ensures.refused))

pub returns : goal.returns
returns g c = λ tools.
    was_recorded c.args.target.now c.args.bound c.args.m.now c.args.info.now c.args.script c.in_ok-told.ensures.links c.in_ok-told.field-0.trace.items
    c.in_ok-told.ensures.trace c.in_ok-told.ensures.within _ _ tools c.in_ok-told.field-0.told.status
    c.in_ok-told.field-0.told.text.items (rw c.as_slice.ensures.value at c.in_ok-put.ensures.written) c.in_ok-put.ensures.once
    c.in_ok-told.ensures.status c.in_ok-told.ensures.text
