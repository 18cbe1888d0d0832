use Rattle.std.proofs.Common.{rules}
use Rattle.rewrite_needs.proofs.needs.Needs.add_indirect.Goals as goal

pub returns : goal.returns
returns c = search rules
