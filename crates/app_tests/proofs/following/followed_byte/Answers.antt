-- The shadow and the session stand at their openings.
use Rattle.std.proofs.Common.{ap, sym, subst}
use Rattle.wasm_sem.specs.Types.{Module}
use Rattle.wasm_run.specs.Running.{Run}
use Rattle.wasm_sem.specs.Execution.{IsScriptInRange, Links}
use Rattle.app_tests.specs.Storing.{called_once}
use Rattle.app_tests.proofs.Stored.{once_in_range, one_links}
use Rattle.app_tests.proofs.Told.{told_fit}
use Rattle.app_tests.proofs.following.followed_byte.Goals as goal

pub new-requires-clause-range : goal.new-requires-clause-range
new-requires-clause-range c = subst IsScriptInRange (sym c.requires.script) once_in_range

pub new-requires-clause-links : goal.new-requires-clause-links
new-requires-clause-links c =
    subst (λ s. Links c.args.own.now s) (sym c.requires.script) (subst (λ (m : Module). Links m called_once) (sym c.requires.own) one_links)

pub follow_out-requires-clause-begun : goal.follow_out-requires-clause-begun
follow_out-requires-clause-begun c = ap (λ (r : Run). r.made) c.requires.opened

pub follow_out-requires-clause-fit : goal.follow_out-requires-clause-fit
follow_out-requires-clause-fit c =
    told_fit _ c.args.own.now c.args.info.now c.args.script.now c.args.session c.in_ok-shadow.shadow c.requires.own c.requires.info c.requires.script
    c.requires.opened c.in_ok-shadow.ensures
