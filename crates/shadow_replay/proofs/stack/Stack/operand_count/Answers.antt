use Rattle.std.specs.Prelude.{reverse}
use Rattle.std.proofs.Common.{◌≡◌, ◌+◌, ◌-◌, ◌∙◌, ap, arith, take}
use Rattle.std.proofs.lemmas.List.{length-reverse}
use Rattle.shadow_replay.specs.Stacked.{KeptLabel, operand_count}
use Rattle.shadow_replay.proofs.Stacks.{last_is, has_labels, counted}
use Rattle.shadow_replay.proofs.stack.Stack.operand_count.Goals as goal

whole : (c : goal.After-behind-self) → c.len.result ≡ operand_count c.args.self.now.frames + c.behind-self.inside.height
whole c =
    let os = c.self.inside.operands.items in
    let ls = c.self.inside.labels.items in
    let labels = has_labels _ (reverse ls) _ c.args.self.now c.self.invariant c.self.view_is c.requires in
    let last = last_is ls c.len-2.result c.index.result.now (c.len-2.ensures ∙ c.self.inside.labels.ok.0) (omega (arith, labels, length-reverse ls)) c.index.ensures in
    let count = counted (reverse os) _ _ c.args.self.now c.index.result.now (reverse (take (c.len-2.result - 1) ls)) c.self.invariant c.self.view_is c.requires last in
    omega (arith, count, ap (λ (s : KeptLabel). s.height) c.behind-self.view_is, length-reverse os, c.len.ensures, c.self.inside.operands.ok.0)

pub overflow_sub-result : goal.overflow_sub-result
overflow_sub-result c = omega (arith, whole c)

pub returns : goal.returns
returns c = omega (arith, whole c)
