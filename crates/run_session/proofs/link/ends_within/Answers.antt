use Rattle.std.proofs.Common.{rules}
use Rattle.run_session.proofs.link.ends_within.Goals as goal

pub returns-then-count-size : goal.returns-then-count-size
returns-then-count-size c = search rules
