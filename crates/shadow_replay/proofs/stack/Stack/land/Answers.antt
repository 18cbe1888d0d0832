use Rattle.std.specs.Prelude.{reverse, is_ok, true, if◌then◌else◌}
use Rattle.std.proofs.Common.{◌≡◌, ◌∙◌, ◌-◌, ◌++◌, ap, arith, drop, take}
use Rattle.std.proofs.lemmas.List.{length-reverse, reverse-append}
use Rattle.shadow_replay.specs.Stacked.{KeptLabel, label_landed, operand_count}
use Rattle.shadow_replay.proofs.Stacks.{Stands, reverse-cut, reverse-take, last_is, has_spots, counted, nested_has, land_stands}
use Rattle.shadow_replay.proofs.stack.Stack.land.Goals as goal

lands : (c : goal.Else-is_err) → Stands (reverse c.extend_from_slice.new.self.items) (reverse c.truncate-2.new.self.items) (reverse c.self.inside.frames.items) (label_landed (reverse c.args.values.now) c.args.self.now)
lands c =
    let os = c.self.inside.operands.items in
    let ls = c.self.inside.labels.items in
    let cut = c.truncate.new.self.items in
    let size = c.len-innermost.ensures ∙ c.self.inside.labels.ok.0 in
    let some = has_spots _ (reverse ls) _ c.args.self.now c.self.invariant c.self.view_is c.requires in
    let last = last_is ls c.len-innermost.result c.index.result.now size (omega (arith, some, length-reverse ls)) c.index.ensures in
    let count = counted _ _ _ c.args.self.now c.index.result.now (reverse (take (c.len-innermost.result - 1) ls)) c.self.invariant c.self.view_is (nested_has c.args.self.now.frames c.requires) last in
    let height : c.behind-self.inside.height ≡ c.index.result.now.height = ap (λ (s : KeptLabel). s.height) c.behind-self.view_is in
    let lower : reverse cut ≡ drop (operand_count c.args.self.now.frames) (reverse os) =
    ap reverse (c.truncate.ensures.items ∙ ap (take c.behind-self.inside.height) c.in_ok-reserve.ensures.items) ∙ reverse-take c.behind-self.inside.height os
    ∙ ap (λ k. drop k (reverse os)) (omega (arith, count, height, length-reverse os)) in
    let ok : is_ok c.extend_from_slice.result ≡ true = c.if-is_err.ensures.negation in
    let whole : c.extend_from_slice.new.self.items ≡ cut ++ c.args.values.now = c.extend_from_slice.ensures.items ∙ ap (λ b. if b then cut ++ c.args.values.now else cut) ok in
    land_stands (reverse c.args.values.now) (reverse os) (reverse cut) (reverse c.extend_from_slice.new.self.items) (reverse ls) (reverse c.truncate-2.new.self.items) _ c.args.self.now c.self.invariant c.self.view_is c.requires lower
    (reverse-cut ls c.truncate-2.new.self.items 1 c.len-innermost.result size (omega (arith, some, length-reverse ls)) c.truncate-2.ensures.items)
    (ap reverse whole ∙ reverse-append cut c.args.values.now)

pub invariant_of-self-2 : goal.invariant_of-self-2
invariant_of-self-2 c = (lands c).kept

pub returns-clause-ok : goal.returns-clause-ok
returns-clause-ok c = (lands c).is
