-- The run, or want of memory.
use Rattle.std.proofs.Common.{subst, sym}
use Rattle.std.proofs.lemmas.Result.{err_from_is_err_and}
use Rattle.wasm_sem.specs.Execution.{IsScriptInRange}
use Rattle.wasabi_app.proofs.TrialLinks.{trial_in_range}
use Rattle.wasabi_app.proofs.TrialPairs.{not_run, part_run, was_run}
use Rattle.wasabi_app.proofs.trial_mode.run_output.Goals as goal

pub play-requires-clause-range : goal.play-requires-clause-range
play-requires-clause-range g c = subst IsScriptInRange (sym c.in_ok-script.ensures) (trial_in_range c.args.number c.args.steps c.requires.steps.0 c.requires.steps.1)

pub returns-in_err-script : goal.returns-in_err-script
returns-in_err-script g c =
    let p = err_from_is_err_and c.from_residual.result c.from_residual.ensures.1 in
    rw (p.1, p.2) (not_run c.args.number c.args.steps c.args.front.now c.args.output.now c.args.info.now _ _)

pub returns-in-Ok : goal.returns-in-Ok
returns-in-Ok g c =
    was_run c.args.number c.args.steps c.args.front.now c.args.output.now c.args.info.now c.in_ok-script.script c.in_ok-script.ensures _ c.in-Ok.played.tally _ _
    c.told.result c.in-Ok.ensures.ended c.in-Ok.ensures.counted (rw c.all.ensures at c.in-Ok.ensures.fed) c.told.ensures.status c.told.ensures.text

pub returns : goal.returns
returns g c =
    part_run c.args.number c.args.steps c.args.front.now c.args.output.now c.args.info.now c.in_ok-script.script c.in_ok-script.ensures _ _ _
    (rw c.all.ensures at c.in-Err.ensures.stands)
