use Rattle.std.proofs.Common.{refl, sym, ap, ◌∙◌, arith, rules}
use Rattle.std.proofs.lemmas.List.{length_push}
use Rattle.hook_select.specs.Groups.{pieces}
use Rattle.hook_select.proofs.Pieces.{gives_pieces, next_item, no_item}
use Rattle.hook_select.proofs.ReadOn.{rest_reads, list_reads}
use Rattle.hook_select.proofs.read.read_names.Goals as goal

pub loop-name-init : goal.loop-name-init
loop-name-init c = (refl, list_reads (pieces c.args.text.now) ∙ ap (λ hooks. rest_reads 0 hooks (pieces c.args.text.now)) (sym c.none-hooks.ensures))

pub loop-name-preserved : goal.loop-name-preserved
loop-name-preserved c =
    let given = gives_pieces c.args.text.now c.into_iter-name-iterator.ensures.into_iter_gives c.split-name-items.ensures.text c.split-name-items.ensures.has_more c.split-name-items.ensures.pattern in
    let next = next_item given c.loop-name.yielded _ c.loop-name.yielded_by _ _ c.in-Some.name c.in-Some.is c.next.ensures.steps (rest_reads c.loop-name.place c.loop-name.hooks) in
    (omega (arith, length_push c.loop-name.yielded c.in-Some.name, c.loop-name.invariant.0), search rules)

pub returns-in-None-group_named-clause-unknown : goal.returns-in-None-group_named-clause-unknown
returns-in-None-group_named-clause-unknown c =
    let given = gives_pieces c.args.text.now c.into_iter-name-iterator.ensures.into_iter_gives c.split-name-items.ensures.text c.split-name-items.ensures.has_more c.split-name-items.ensures.pattern in
    let next = next_item given c.loop-name.yielded _ c.loop-name.yielded_by _ _ c.in-Some.name c.in-Some.is c.next.ensures.steps (rest_reads c.loop-name.place c.loop-name.hooks) in
    search rules

pub returns-clause-reads : goal.returns-clause-reads
returns-clause-reads c =
    let given = gives_pieces c.args.text.now c.into_iter-name-iterator.ensures.into_iter_gives c.split-name-items.ensures.text c.split-name-items.ensures.has_more c.split-name-items.ensures.pattern in
    c.loop-name.invariant.1 ∙ no_item given c.loop-name.yielded _ c.loop-name.yielded_by _ _ c.in-None.is c.next.ensures.steps (rest_reads c.loop-name.place c.loop-name.hooks)
