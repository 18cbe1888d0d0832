-- The session stands at its opening.
use Rattle.std.proofs.Common.{ap}
use Rattle.wasm_run.specs.Running.{Run}
use Rattle.app_tests.proofs.shadows.linked.Goals as goal

pub link-requires : goal.link-requires
link-requires c = record { range = c.requires.range }

pub followed-requires-clause-begun : goal.followed-requires-clause-begun
followed-requires-clause-begun c = ap (λ (r : Run). r.made) c.in-Ok.ensures.1

pub followed-requires-clause-script : goal.followed-requires-clause-script
followed-requires-clause-script c = ap (λ (r : Run). r.script) c.in-Ok.ensures.1

pub followed-requires-clause-links : goal.followed-requires-clause-links
followed-requires-clause-links c = rw c.in-Ok.ensures.1 c.in-Ok.ensures.0

pub followed-requires-clause-paired : goal.followed-requires-clause-paired
followed-requires-clause-paired c = rw c.in-Ok.ensures.1 c.requires.paired
