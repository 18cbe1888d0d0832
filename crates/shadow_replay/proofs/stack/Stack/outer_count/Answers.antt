use Rattle.std.specs.Prelude.{reverse}
use Rattle.std.proofs.Common.{◌≡◌, ◌+◌, ◌-◌, ◌∙◌, ap, arith, take}
use Rattle.std.proofs.lemmas.List.{length-reverse}
use Rattle.shadow_replay.specs.Stacked.{KeptFrame}
use Rattle.shadow_replay.specs.Tainted.{outer_count}
use Rattle.shadow_replay.proofs.Stacks.{last_is, has_bases}
use Rattle.shadow_replay.proofs.StackReads.{outer_counted}
use Rattle.shadow_replay.proofs.stack.Stack.outer_count.Goals as goal

whole : (c : goal.After-behind-self) → c.len.result ≡ c.behind-self.inside.labels + 1 + outer_count c.args.self.now.frames
whole c =
    let ls = c.self.inside.labels.items in
    let fs = c.self.inside.frames.items in
    let frames = has_bases _ _ (reverse fs) c.args.self.now c.self.invariant c.self.view_is c.requires in
    let last = last_is fs c.len-2.result c.index.result.now (c.len-2.ensures ∙ c.self.inside.frames.ok.0) (omega (arith, frames, length-reverse fs)) c.index.ensures in
    let count = outer_counted _ (reverse ls) _ c.args.self.now c.index.result.now (reverse (take (c.len-2.result - 1) fs)) c.self.invariant c.self.view_is c.requires last in
    omega (arith, count, ap (λ (b : KeptFrame). b.labels) c.behind-self.view_is, length-reverse ls, c.len.ensures, c.self.inside.labels.ok.0)

pub overflow_sub-result-2 : goal.overflow_sub-result-2
overflow_sub-result-2 c = omega (arith, whole c)

pub returns : goal.returns
returns c = omega (arith, whole c)
