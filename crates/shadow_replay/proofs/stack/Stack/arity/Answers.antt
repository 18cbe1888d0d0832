use Rattle.std.specs.Prelude.{reverse}
use Rattle.std.proofs.Common.{◌∙◌, ap, arith}
use Rattle.std.proofs.lemmas.List.{length-reverse}
use Rattle.shadow_replay.specs.Stacked.{KeptLabel}
use Rattle.shadow_replay.proofs.StackReads.{label_there, label_arity}
use Rattle.shadow_replay.proofs.stack.Stack.arity.Goals as goal

pub overflow_sub-len-2 : goal.overflow_sub-len-2
overflow_sub-len-2 c =
    let ls = c.self.inside.labels.items in
    omega (arith, label_there c.args.label _ (reverse ls) _ c.args.self.now c.self.invariant c.self.view_is c.requires, length-reverse ls, c.len.ensures, c.self.inside.labels.ok.0)

pub returns : goal.returns
returns c =
    ap (λ (s : KeptLabel). s.arity) c.behind-self.view_is
    ∙ label_arity c.args.label c.len.result _ c.self.inside.labels.items _ c.args.self.now c.index.result.now c.self.invariant c.self.view_is c.requires (c.len.ensures ∙ c.self.inside.labels.ok.0) c.index.ensures
