use Rattle.std.proofs.Common.{rules, tests, ◌≡◌, IfOk, ap, subst}
use Rattle.std.proofs.lemmas.Iterator.{items_from_collect, YieldsList-from_map}
use Rattle.std.proofs.lemmas.Iterator.Consumers.{YieldsList-from_rest, YieldsList-at}
use Rattle.analyses.specs.Headings.{row_of_entry}
use Rattle.analyses.proofs.ledger.Ledger.rows.Goals as goal

pub returns : goal.returns
returns c =
    subst (λ book. IfOk c.collect.result (λ rows. rows.items ≡ book)) (ap (λ s. s.book) c.self.view_is)
    (items_from_collect _ c.collect.ensures.ran
    (YieldsList-from_map _ row_of_entry (YieldsList-at c.map.ensures.source (YieldsList-from_rest c.self.inside.rows.entries c.iter.ensures.rest))
    c.map.ensures.closure (λ x r q k. search (rules, tests))))
