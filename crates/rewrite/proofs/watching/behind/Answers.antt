use Rattle.std.proofs.Common.{rules}
use Rattle.std.proofs.lemmas.List.{drop_min}
use Rattle.rewrite.proofs.watching.behind.Goals as goal

pub returns : goal.returns
returns c = search (rules, drop_min)
