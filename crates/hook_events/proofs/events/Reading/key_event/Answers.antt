use Rattle.std.proofs.Common.{[], ◌∷◌, drop, ap, ap₂, ◌∙◌}
use Rattle.std.specs.List.{slice_index}
use Rattle.hook_select.specs.declared.Event.TheVariants.{CallPre, IndirectPre}
use Rattle.hook_mono.specs.Values.{values_from}
use Rattle.static_info.specs.Read.{callee_in}
use Rattle.hook_events.proofs.ReadValues.{key_read}
use Rattle.hook_events.proofs.events.Reading.key_event.Goals as goal

pub returns-in_ok-values-in-CallPre : goal.returns-in_ok-values-in-CallPre
returns-in_ok-values-in-CallPre c =
    let args = c.in_ok-values-in-CallPre.ensures ∙ ap₂ values_from c.each_key-as_slice.ensures c.number-in-CallPre.ensures.left in
    key_read (callee_in c.args.self.now.info.now c.args.self.now.table.now) c.args.loc c.args.key.now _ c.args.words.now _ c.in-CallPre.each_key-arg-in-CallPre-1-own.given.1
    (ap₂ (λ n vs. CallPre c.args.loc n vs ∷ []) c.number-in-CallPre.ensures.is args)

pub returns-in_ok-values-in-IndirectPre : goal.returns-in_ok-values-in-IndirectPre
returns-in_ok-values-in-IndirectPre c =
    let at = callee_in c.args.self.now.info.now c.args.self.now.table.now in
    let left = c.number-in-IndirectPre.ensures.left in
    let slot = c.number-in-IndirectPre-2.ensures.is ∙ ap (λ ws. slice_index ws 0) left in
    let args = c.in_ok-values-in-IndirectPre.ensures ∙ ap₂ values_from c.each_key-as_slice-in-IndirectPre.ensures (c.number-in-IndirectPre-2.ensures.left ∙ ap (drop 1) left) in
    let first = slice_index c.args.words.now 0 in
    key_read at c.args.loc c.args.key.now _ c.args.words.now _ c.in-IndirectPre.each_key-arg-in-IndirectPre-1-own.given.1
    (ap₂ (λ n m. IndirectPre c.args.loc n m c.callee_in.result c.in_ok-values-in-IndirectPre.args ∷ []) c.number-in-IndirectPre.ensures.is slot
    ∙ ap₂ (λ f vs. IndirectPre c.args.loc first (slice_index (drop 1 c.args.words.now) 0) f vs ∷ []) (c.callee_in.ensures ∙ ap at slot) args)
