use Rattle.std.proofs.Common.{List, ℕ}
use Rattle.hook_select.specs.Groups.{pieces}
use Rattle.hook_select.proofs.Pieces.{gives_pieces, next_item, no_item}
use Rattle.function_list.specs.Choices.{is_listed, text_means}
use Rattle.function_list.proofs.Marking.{begins, goes_on, is_done}
use Rattle.function_list.proofs.mark.mark_pieces.Goals as goal

pub loop-text-init : goal.loop-text-init
loop-text-init c = begins c.args.m.now c.args.flag (is_listed c.args.m.now c.args.names.now (pieces c.args.list.now)) c.args.flags.now

pub loop-text-preserved : goal.loop-text-preserved
loop-text-preserved c =
    let given = gives_pieces c.args.list.now c.into_iter-text-iterator.ensures.into_iter_gives c.split-text-items.ensures.text c.split-text-items.ensures.has_more c.split-text-items.ensures.pattern in
    goes_on c.args.m.now c.args.flag _ _ (λ f. text_means c.args.m.now c.args.names.now f c.in-Some.text.now) _ c.args.flags.now c.loop-text.flags c.mark_text.new.flags
    c.loop-text.invariant c.mark_text.ensures
    (λ f. next_item given c.loop-text.yielded _ c.loop-text.yielded_by _ _ c.in-Some.text c.in-Some.is c.next.ensures.steps (λ (texts : List (List ℕ)). is_listed c.args.m.now c.args.names.now texts f))

pub returns : goal.returns
returns c =
    let given = gives_pieces c.args.list.now c.into_iter-text-iterator.ensures.into_iter_gives c.split-text-items.ensures.text c.split-text-items.ensures.has_more c.split-text-items.ensures.pattern in
    is_done c.args.m.now c.args.flag _ _ c.args.flags.now c.loop-text.flags c.loop-text.invariant
    (λ f. no_item given c.loop-text.yielded _ c.loop-text.yielded_by _ _ c.in-None.is c.next.ensures.steps (λ (texts : List (List ℕ)). is_listed c.args.m.now c.args.names.now texts f))
