-- A run whose paths are told, an end that is not nested, or a run that was not made.
use Rattle.std.proofs.Common.{ap, Err}
use Rattle.wasabi_app.proofs.Linked.{fault_within, was_unlinked}
use Rattle.wasabi_app.proofs.Modes.Tree.{was_treed, was_unnested}
use Rattle.wasabi_app.proofs.tree_mode.tree_loaded.Goals as goal

pub returns-in-Ok : goal.returns-in-Ok
returns-in-Ok c = λ at tools.
    was_treed c.args.m.now c.args.info.now c.args.script c.in-Ok.ensures.links at tools _ _ c.told.result c.in-Ok.ensures.nested c.in-Ok.ensures.ended c.in-Ok.ensures.nodes
    c.told.ensures.status c.told.ensures.text c.told.ensures.no_memory

pub returns-in-Err-NotNested : goal.returns-in-Err-NotNested
returns-in-Err-NotNested c = λ at tools.
    let l = c.in-Err-NotNested.ensures.unnested _ (ap Err c.in-Err-NotNested.field-0-is) in
    was_unnested c.args.m.now c.args.info.now c.args.script l.0 _ at tools c.refused.result l.1 (c.refused.ensures _ c.not_nested_line.ensures)

pub unlinked-requires : goal.unlinked-requires
unlinked-requires c = λ call e.
    fault_within c.args.m.now c.args.script c.in-Err-Unlinked.fault call (c.in-Err-Unlinked.ensures.refused _ (ap Err c.in-Err-Unlinked.field-0-is)) e

pub returns-in-Err-Unlinked : goal.returns-in-Err-Unlinked
returns-in-Err-Unlinked c = λ at tools.
    was_unlinked c.args.m.now c.args.script c.in-Err-Unlinked.fault _ at tools c.unlinked.result
    (c.in-Err-Unlinked.ensures.refused _ (ap Err c.in-Err-Unlinked.field-0-is)) c.unlinked.ensures
