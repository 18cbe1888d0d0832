use Rattle.std.proofs.Common.{List, ℕ, not, bytes_eq, map, string_bytes, rules, refl}
use Rattle.std.specs.List.{list_any}
use Rattle.std.proofs.lemmas.Iterator.Search.{find_from_yields_List}
use Rattle.hook_select.proofs.Pieces.{gives_pieces}
use Rattle.app_runs.proofs.watching.first_unknown.Goals as goal
use borrow.Author.Tests.{tests}

pub returns : goal.returns
returns c =
    rw c.in_ok-list.was
    (find_from_yields_List (λ (name : List ℕ). not (list_any (bytes_eq name) (map string_bytes c.args.known.now))) _ _ c.find.result c.find.ensures.ran
    (gives_pieces c.in_ok-list.field-0.now refl c.split.ensures.text c.split.ensures.has_more c.split.ensures.pattern) (λ x b q k. search (rules, tests)))
