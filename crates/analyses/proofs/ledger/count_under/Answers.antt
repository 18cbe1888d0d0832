use Rattle.std.proofs.Common.{◌≡◌, ap, sym, ◌∙◌, refl}
use Rattle.std.specs.Option.{option_copied}
use Rattle.analyses.proofs.Entries.{next_tally, book_counted, counts_counted}
use Rattle.analyses.proofs.ledger.count_under.Goals as goal
use Rattle.analyses.proofs.ledger.count_under.Goals.{in-Some, in-None}

tally_is : (c : goal.In_ok-insert) → c.match-get.tally ≡ next_tally c.args.kind c.args.address (option_copied c.get.result)
tally_is c = elim c.match-get.branch [
  | in-Some w ↦ w.tally-is ∙ w.counted-tally.ensures ∙ ap (λ o. next_tally c.args.kind c.args.address (option_copied o)) (sym w.in-Some.is)
  | in-None w ↦ w.tally-is ∙ w.first-tally.ensures ∙ ap (λ o. next_tally c.args.kind c.args.address (option_copied o)) (sym w.in-None.is)
]

pub returns-clause-counted : goal.returns-clause-counted
returns-clause-counted c =
    book_counted _ (λ p q. refl) c.args.kind c.args.heading c.args.address _ _ c.match-get.tally c.insert.ensures.was_ordered
    c.in_ok-insert.ensures.entries (tally_is c ∙ ap (λ o. next_tally c.args.kind c.args.address o) c.get.ensures.value)

pub returns-clause-bounded : goal.returns-clause-bounded
returns-clause-bounded c = λ n bound.
    counts_counted _ c.args.kind c.args.heading c.args.address n c.args.rows.now.entries _ c.match-get.tally
    c.in_ok-insert.ensures.entries (tally_is c ∙ ap (λ o. next_tally c.args.kind c.args.address o) c.get.ensures.value) bound
