use Rattle.std.specs.Prelude.{reverse}
use Rattle.std.proofs.Common.{◌≡◌, ◌∙◌, ◌-◌, ap, arith, drop, take}
use Rattle.std.proofs.lemmas.List.{length-reverse}
use Rattle.shadow_replay.specs.Stacked.{KeptLabel, frame_left, operand_count}
use Rattle.shadow_replay.proofs.Stacks.{Stands, reverse-cut, reverse-take, last_is, has_labels, has_bases, counted, outermost_has, leave_stands}
use Rattle.shadow_replay.proofs.stack.Stack.leave.Goals as goal

leaves : (c : goal.After-truncate-3) → Stands (reverse c.truncate.new.self.items) (reverse c.truncate-2.new.self.items) (reverse c.truncate-3.new.self.items) (frame_left c.args.self.now)
leaves c =
    let os = c.self.inside.operands.items in
    let ls = c.self.inside.labels.items in
    let fs = c.self.inside.frames.items in
    let kept = c.self.invariant in
    let has = outermost_has c.args.self.now.frames c.requires in
    let size = c.len-innermost.ensures ∙ c.self.inside.labels.ok.0 in
    let labels = has_labels (reverse os) (reverse ls) (reverse fs) c.args.self.now kept c.self.view_is has in
    let frames = has_bases (reverse os) (reverse ls) (reverse fs) c.args.self.now kept c.self.view_is has in
    let last = last_is ls c.len-innermost.result c.index.result.now size (omega (arith, labels, length-reverse ls)) c.index.ensures in
    let count = counted _ _ _ c.args.self.now c.index.result.now (reverse (take (c.len-innermost.result - 1) ls)) kept c.self.view_is has last in
    let height : c.behind-self.inside.height ≡ c.index.result.now.height = ap (λ (s : KeptLabel). s.height) c.behind-self.view_is in
    let lower : reverse c.truncate.new.self.items ≡ drop (operand_count c.args.self.now.frames) (reverse os) =
    ap reverse c.truncate.ensures.items ∙ reverse-take c.behind-self.inside.height os ∙ ap (λ k. drop k (reverse os)) (omega (arith, count, height, length-reverse os)) in
    leave_stands (reverse os) (reverse ls) (reverse fs) c.args.self.now kept c.self.view_is (reverse c.truncate.new.self.items) (reverse c.truncate-2.new.self.items) (reverse c.truncate-3.new.self.items) c.requires lower
    (reverse-cut ls c.truncate-2.new.self.items 1 c.len-innermost.result size (omega (arith, labels, length-reverse ls)) c.truncate-2.ensures.items)
    (reverse-cut fs c.truncate-3.new.self.items 1 c.len.result (c.len.ensures ∙ c.self.inside.frames.ok.0) (omega (arith, frames, length-reverse fs)) c.truncate-3.ensures.items)

pub invariant_of-self : goal.invariant_of-self
invariant_of-self c = (leaves c).kept

pub returns : goal.returns
returns c = (leaves c).is
