use Rattle.std.proofs.Common.{filter, sym, ap, ◌∙◌}
use Rattle.hook_mono.specs.Values.{values_from}
use Rattle.hook_mono.specs.Words.{value_types}
use Rattle.static_info.specs.Read.{is_selected}
use Rattle.hook_events.proofs.Known.{known_told}
use Rattle.hook_events.proofs.events.Reading.known.Goals as goal

pub returns : goal.returns
returns c =
    let reading = c.args.self.now in
    let key = c.args.key.now in
    let known =
    known_told reading.info.now reading.table.now reading.hook c.args.func.now key c.args.loc (values_from (value_types key) c.args.words.now)
    (sym c.is_branch.ensures ∙ c.if-is_branch.false) in
    c.one.ensures ∙ ap (filter (is_selected reading.info.now.groups)) (c.in_ok-event.ensures ∙ sym known)
