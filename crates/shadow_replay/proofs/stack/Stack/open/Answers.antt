use Rattle.std.specs.Prelude.{reverse}
use Rattle.std.proofs.Common.{◌≡◌, ◌-◌, ◌∙◌, [], ◌∷◌, ℤ, ap, length, sym, w32}
use Rattle.std.proofs.lemmas.Int.{to_z-of_z}
use Rattle.std.proofs.lemmas.List.{reverse-append, length-reverse}
use Rattle.shadow_replay.specs.Stacked.{KeptLabel, label_opened}
use Rattle.shadow_replay.proofs.Stacks.{Stands, open_stands}
use Rattle.shadow_replay.proofs.stack.Stack.open.Goals as goal

opens : (c : goal.In_ok-push) → Stands (reverse c.self.inside.operands.items) (reverse c.push.new.self.items) (reverse c.self.inside.frames.items) (label_opened c.args.kind c.args.begin c.args.starts c.args.arity c.args.self.now)
opens c =
    let os = c.self.inside.operands.items in
    let ls = c.self.inside.labels.items in
    let block : ℤ → KeptLabel = λ begin. record { kind = c.args.kind; begin = begin; arity = c.args.arity; height = c.len.result - c.args.starts } in
    let size : c.len.result ≡ length (reverse os) = c.len.ensures ∙ c.self.inside.operands.ok.0 ∙ sym (length-reverse os) in
    open_stands c.args.starts (block c.args.begin) (reverse os) (reverse ls) (reverse c.push.new.self.items) _ c.args.self.now c.self.invariant c.self.view_is c.requires (ap (λ k. k - c.args.starts) size)
    (ap reverse c.in_ok-push.ensures.items ∙ reverse-append ls (block _ ∷ []) ∙ ap (λ begin. block begin ∷ reverse ls) (to_z-of_z w32 c.args.begin c.ranges.begin))

pub invariant_of-self-2 : goal.invariant_of-self-2
invariant_of-self-2 c = (opens c).kept

pub returns-clause-ok : goal.returns-clause-ok
returns-clause-ok c = (opens c).is
