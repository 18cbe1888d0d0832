use Rattle.std.proofs.Common.{List, ℕ, not, rules, refl}
use Rattle.std.proofs.lemmas.Iterator.Search.{find_from_yields_List}
use Rattle.hook_select.proofs.Pieces.{gives_pieces}
use Rattle.function_list.specs.Choices.{is_known_text}
use Rattle.function_list.proofs.choice.first_unknown.Goals as goal
use borrow.Author.Tests.{tests}

pub returns : goal.returns
returns c =
    rw c.in_ok-list.was
    (find_from_yields_List (λ (text : List ℕ). not (is_known_text c.args.m.now c.args.names.now text)) _ _ c.find.result c.find.ensures.ran
    (gives_pieces c.in_ok-list.field-0.now refl c.split.ensures.text c.split.ensures.has_more c.split.ensures.pattern) (λ x b q k. search (rules, tests)))
