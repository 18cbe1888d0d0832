-- A run from its opening, or why there is none.
use Rattle.std.proofs.Common.{arith, ap}
use Rattle.std.proofs.lemmas.Result.{err_from_is_err_and}
use Rattle.wasm_run.specs.Running.{Run}
use Rattle.app_runs.proofs.quiet.run_script.Goals as goal

pub link-requires : goal.link-requires
link-requires c = c.requires

pub returns-in_err-session-clause-refused : goal.returns-in_err-session-clause-refused
returns-in_err-session-clause-refused c =
    let p = err_from_is_err_and c.from_residual.result c.from_residual.ensures.1 in
    rw (p.1, p.2) c.in_err-session.ensures

pub finish-requires : goal.finish-requires
finish-requires c = let e = ap (λ (r : Run). r.made) c.in_ok-session.ensures.1 in omega (arith, e)

pub returns-in-Ok-clause-links : goal.returns-in-Ok-clause-links
returns-in-Ok-clause-links c = c.in_ok-session.ensures.0

pub returns-in-Ok-clause-ended : goal.returns-in-Ok-clause-ended
returns-in-Ok-clause-ended c = rw c.in_ok-session.ensures.1 at c.in-Ok.ensures
