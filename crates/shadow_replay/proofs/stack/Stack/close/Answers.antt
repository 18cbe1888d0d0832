use Rattle.std.specs.Prelude.{reverse}
use Rattle.std.proofs.Common.{◌∙◌, arith}
use Rattle.std.proofs.lemmas.List.{length-reverse}
use Rattle.shadow_replay.specs.Stacked.{label_closed}
use Rattle.shadow_replay.proofs.Stacks.{Stands, reverse-cut, has_spots, close_stands}
use Rattle.shadow_replay.proofs.stack.Stack.close.Goals as goal

closes : (c : goal.After-truncate) → Stands (reverse c.self.inside.operands.items) (reverse c.truncate.new.self.items) (reverse c.self.inside.frames.items) (label_closed c.args.self.now)
closes c =
    let ls = c.self.inside.labels.items in
    let some = has_spots _ (reverse ls) _ c.args.self.now c.self.invariant c.self.view_is c.requires in
    close_stands _ (reverse ls) (reverse c.truncate.new.self.items) _ c.args.self.now c.self.invariant c.self.view_is c.requires
    (reverse-cut ls c.truncate.new.self.items 1 c.len.result (c.len.ensures ∙ c.self.inside.labels.ok.0) (omega (arith, some, length-reverse ls)) c.truncate.ensures.items)

pub invariant_of-self : goal.invariant_of-self
invariant_of-self c = (closes c).kept

pub returns : goal.returns
returns c = (closes c).is
