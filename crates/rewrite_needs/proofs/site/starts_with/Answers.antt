use Rattle.std.proofs.Common.{rules}
use Rattle.rewrite_needs.proofs.site.starts_with.Goals as goal

pub returns-in-Some : goal.returns-in-Some
returns-in-Some c = search rules
