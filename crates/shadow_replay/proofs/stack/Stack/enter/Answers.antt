use Rattle.std.specs.Prelude.{reverse, if◌then◌else◌}
use Rattle.std.proofs.Common.{◌≡◌, ◌∙◌, ◌∷◌, [], ◌++◌, negsuc, ap, sym}
use Rattle.std.proofs.lemmas.List.{length-reverse, reverse-append}
use Rattle.wasm_num.specs.declared.BlockKind.TheVariants as kinds
use Rattle.shadow_replay.specs.Stacked.{KeptLabel, KeptFrame, frame_entered}
use Rattle.shadow_replay.proofs.Stacks.{Stands, enter_stands}
use Rattle.shadow_replay.proofs.stack.Stack.enter.Goals as goal

enters : (c : goal.After-push_reserved) → Stands (reverse c.self.inside.operands.items) (reverse c.push.new.self.items) (reverse c.push_reserved.new.self.items) (frame_entered c.args.func c.args.arity c.args.locals.items c.args.self.now)
enters c =
    let os = c.self.inside.operands.items in
    let ls = c.self.inside.labels.items in
    let fs = c.self.inside.frames.items in
    let label : KeptLabel = record { kind = kinds.Function; begin = negsuc 0; arity = c.args.arity; height = c.len.result } in
    let frame : KeptFrame = record { func = c.args.func; locals = c.args.locals.items; labels = c.len-labels.result } in
    let pushed : c.push.new.self.items ≡ ls ++ label ∷ [] = c.push.ensures.items ∙ ap (λ b. if b then ls ++ label ∷ [] else ls) c.if-is_err-2.ensures.negation in
    enter_stands (reverse os) (reverse ls) (reverse fs) c.args.self.now c.self.invariant c.self.view_is label frame (reverse c.push.new.self.items) (reverse c.push_reserved.new.self.items)
    (ap (λ n. (let s : KeptLabel = record { kind = kinds.Function; begin = negsuc 0; arity = c.args.arity; height = n } in s)) (c.len.ensures ∙ c.self.inside.operands.ok.0 ∙ sym (length-reverse os)))
    (c.len-labels.ensures ∙ c.self.inside.labels.ok.0 ∙ sym (length-reverse ls))
    (ap reverse pushed ∙ reverse-append ls (label ∷ []))
    (ap reverse (c.push_reserved.ensures.items ∙ ap (λ fs. fs ++ frame ∷ []) c.reserve.ensures.items) ∙ reverse-append fs (frame ∷ []))

pub invariant_of-self-2 : goal.invariant_of-self-2
invariant_of-self-2 c = (enters c).kept

pub returns-clause-ok : goal.returns-clause-ok
returns-clause-ok c = (enters c).is
