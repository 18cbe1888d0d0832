-- A name that is unknown, a module without an output, or what came of its run.
use Rattle.std.proofs.lemmas.Result.{err_from_is_err_and}
use Rattle.module_ast.specs.Validation.Limits.{longest_file}
use Rattle.wasabi_app.specs.Making.{output_length}
use Rattle.wasabi_app.specs.Modes.Instrument.{hooked}
use Rattle.wasabi_app.specs.Modes.Taint.{warned_plan, watch_of}
use Rattle.wasabi_app.specs.Modes.Trial.{all_hooks}
use Rattle.wasabi_app.specs.Words.{given_of}
use Rattle.wasabi_app.proofs.Modes.Taint.{followed, unhooked}
use Rattle.wasabi_app.proofs.taint_mode.taint_module.Goals as goal

pub returns-in_err-watched : goal.returns-in_err-watched
returns-in_err-watched g c = λ tools.
    let given = given_of c.args.given.now in
    let m = c.args.m.now in
    let p = err_from_is_err_and c.from_residual.result c.from_residual.ensures.1 in
    rw (p.1, p.2)
    (c.in_err-watched.ensures.refused (hooked given.subject m (output_length m all_hooks) longest_file (warned_plan c.args.script.now (watch_of given m) m)) _ tools)

pub hooked_for_all-requires-clause-limits : goal.hooked_for_all-requires-clause-limits
hooked_for_all-requires-clause-limits g c = λ _ _. c.requires.followable.limits

pub hooked_for_all-requires-clause-short : goal.hooked_for_all-requires-clause-short
hooked_for_all-requires-clause-short g c = λ _ _. c.requires.followable.short

pub returns-in_err-hooked : goal.returns-in_err-hooked
returns-in_err-hooked g c = λ tools.
    let p = err_from_is_err_and c.from_residual-in_err-hooked.result c.from_residual-in_err-hooked.ensures.1 in
    rw (p.1, p.2)
    (unhooked (given_of c.args.given.now) c.args.m.now c.args.script.now c.in_err-hooked.field-0.0 _ tools c.in_ok-watched.ensures.known
    c.in_err-hooked.ensures.refused)

pub run_script-requires-clause-named : goal.run_script-requires-clause-named
run_script-requires-clause-named g c = λ _ _. c.in_ok-watched.ensures.watched.named

pub returns : goal.returns
returns g c = λ tools.
    followed (given_of c.args.given.now) c.args.m.now c.args.script.now c.in_ok-watched.watched _ _ tools c.run_script.result c.in_ok-watched.ensures.watched
    c.in_ok-watched.ensures.known c.in_ok-hooked.ensures.free c.in_ok-hooked.ensures.few (c.run_script.ensures tools)
