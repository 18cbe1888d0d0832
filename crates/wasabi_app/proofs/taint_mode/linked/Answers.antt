-- A run from its opening, or why there is none.
use Rattle.std.proofs.Common.{ap}
use Rattle.std.proofs.lemmas.Result.{err_from_is_err_and}
use Rattle.wasm_run.specs.Running.{Run}
use Rattle.wasabi_app.proofs.taint_mode.linked.Goals as goal

pub link-requires : goal.link-requires
link-requires c = record { range = c.requires.range }

pub returns-in_err-session-clause-refused : goal.returns-in_err-session-clause-refused
returns-in_err-session-clause-refused c =
    let p = err_from_is_err_and c.from_residual.result c.from_residual.ensures.1 in
    rw (p.1, p.2) c.in_err-session.ensures

pub followed-requires-clause-begun : goal.followed-requires-clause-begun
followed-requires-clause-begun c = ap (λ (r : Run). r.made) c.in_ok-session.ensures.1

pub followed-requires-clause-script : goal.followed-requires-clause-script
followed-requires-clause-script c = ap (λ (r : Run). r.script) c.in_ok-session.ensures.1

pub followed-requires-clause-links : goal.followed-requires-clause-links
followed-requires-clause-links c = rw c.in_ok-session.ensures.1 c.in_ok-session.ensures.0

pub followed-requires-clause-paired : goal.followed-requires-clause-paired
followed-requires-clause-paired c = rw c.in_ok-session.ensures.1 c.requires.paired

pub returns-in-Ok-clause-links : goal.returns-in-Ok-clause-links
returns-in-Ok-clause-links c = c.in_ok-session.ensures.0
