use Rattle.std.proofs.Common.{nat_lt, filter, ap, ◌∙◌, rules, tests}
use Rattle.std.proofs.lemmas.Fn.{filter_same}
use Rattle.name_map.proofs.entries.entries_below.Goals as goal

pub returns : goal.returns
returns g c =
    c.from_vec.ensures
    ∙ (filter_same _ (λ e. nat_lt (g.E.Entry.index e) c.args.bound) _ (λ x b f' q. search (rules, tests)) _ _ c.retain.ensures.filtered
    ∙ ap (filter (λ e. nat_lt (g.E.Entry.index e) c.args.bound)) c.into_vec-entries.ensures)
