use Rattle.std.proofs.Common.{List, ℕ, is_some, rules, refl}
use Rattle.std.proofs.lemmas.Iterator.Search.{all_from_yields_List}
use Rattle.hook_select.proofs.Pieces.{gives_pieces}
use Rattle.function_list.specs.Pieces.{read_piece}
use Rattle.function_list.proofs.piece.is_list.Goals as goal
use borrow.Author.Tests.{tests}

pub returns : goal.returns
returns c =
    all_from_yields_List (λ (text : List ℕ). is_some (read_piece text)) _ _ c.all.result c.all.ensures.ran
    (gives_pieces c.args.list.now refl c.split.ensures.text c.split.ensures.has_more c.split.ensures.pattern) (λ x b q k. search (rules, tests))
