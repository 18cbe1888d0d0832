use Rattle.std.proofs.Common.{sym, ◌∙◌, rules}
use Rattle.hook_select.proofs.Pieces.{gives_pieces, next_item, no_item}
use Rattle.app_load.specs.Kinds.{with_named}
use Rattle.app_load.proofs.kinds.read_names.Goals as goal

pub loop-name-preserved : goal.loop-name-preserved
loop-name-preserved c =
    let given = gives_pieces c.args.list.now c.into_iter-name-iterator.ensures.into_iter_gives c.split-name-items.ensures.text c.split-name-items.ensures.has_more c.split-name-items.ensures.pattern in
    let next = next_item given c.loop-name.yielded _ c.loop-name.yielded_by _ _ c.in-Some.name c.in-Some.is c.next.ensures.steps (with_named c.loop-name.kinds) in
    search rules

pub returns-in_err-kind_named : goal.returns-in_err-kind_named
returns-in_err-kind_named c =
    let given = gives_pieces c.args.list.now c.into_iter-name-iterator.ensures.into_iter_gives c.split-name-items.ensures.text c.split-name-items.ensures.has_more c.split-name-items.ensures.pattern in
    let next = next_item given c.loop-name.yielded _ c.loop-name.yielded_by _ _ c.in-Some.name c.in-Some.is c.next.ensures.steps (with_named c.loop-name.kinds) in
    search rules

pub returns : goal.returns
returns c =
    let given = gives_pieces c.args.list.now c.into_iter-name-iterator.ensures.into_iter_gives c.split-name-items.ensures.text c.split-name-items.ensures.has_more c.split-name-items.ensures.pattern in
    sym (c.loop-name.invariant ∙ no_item given c.loop-name.yielded _ c.loop-name.yielded_by _ _ c.in-None.is c.next.ensures.steps (with_named c.loop-name.kinds))
