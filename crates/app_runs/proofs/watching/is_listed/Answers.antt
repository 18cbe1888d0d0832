use Rattle.std.proofs.Common.{bytes_eq, rules, refl}
use Rattle.std.proofs.lemmas.Iterator.Search.{any_from_yields_List}
use Rattle.hook_select.proofs.Pieces.{gives_pieces}
use Rattle.app_runs.proofs.watching.is_listed.Goals as goal
use borrow.Author.Tests.{tests}

pub returns : goal.returns
returns c =
    any_from_yields_List (bytes_eq c.args.name.now) _ _ _ c.any.ensures.ran
    (gives_pieces c.args.list.now refl c.split.ensures.text c.split.ensures.has_more c.split.ensures.pattern) (λ x b q k. search (rules, tests))
