use Rattle.std.proofs.Common.{rules}
use Rattle.branch_resolve.proofs.Reversed.{replace_last}
use Rattle.branch_resolve.proofs.steps.replace_innermost.Goals as goal

pub returns : goal.returns
returns c = replace_last c.args.levels.now.items c.args.level _ (search rules) c.requires
