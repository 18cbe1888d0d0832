use Rattle.std.proofs.Common.{rules}
use Rattle.run_session.proofs.script.fault_at.Goals as goal

pub returns-in-Wrong : goal.returns-in-Wrong
returns-in-Wrong c = search rules
