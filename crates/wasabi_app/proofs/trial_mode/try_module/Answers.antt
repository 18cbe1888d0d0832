-- No output, or what came of both runs.
use Rattle.std.proofs.Common.{[]}
use Rattle.std.proofs.lemmas.Result.{err_from_is_err_and}
use Rattle.wasabi_app.proofs.Modes.Trial.{tried, tried_part, untried}
use Rattle.wasabi_app.proofs.trial_mode.try_module.Goals as goal

pub hooked_for_all-requires-clause-limits : goal.hooked_for_all-requires-clause-limits
hooked_for_all-requires-clause-limits g c = λ _ _. c.requires.triable.limits

pub hooked_for_all-requires-clause-short : goal.hooked_for_all-requires-clause-short
hooked_for_all-requires-clause-short g c = λ _ _. c.requires.triable.short

pub returns-in_err-hooked : goal.returns-in_err-hooked
returns-in_err-hooked g c = λ at.
    let p = err_from_is_err_and c.from_residual.result c.from_residual.ensures.1 in
    rw (p.1, p.2) (untried c.args.number c.args.first c.args.second c.args.m.now [] at _ c.in_err-hooked.field-0.0 c.requires.triable.free c.in_err-hooked.ensures.refused)

pub returns-in-Ok : goal.returns-in-Ok
returns-in-Ok g c = λ at.
    let both = rw c.in-Ok.is at c.run_both.ensures in
    tried c.args.number c.args.first c.args.second c.args.m.now at _ _ c.in-Ok.told c.in_ok-hooked.ensures.few both.told both.fed

pub returns : goal.returns
returns g c = λ at.
    let both = rw c.in-Err.is at c.run_both.ensures in
    tried_part c.args.number c.args.first c.args.second c.args.m.now at _ _ c.in_ok-hooked.ensures.few both.part
