use Rattle.std.proofs.Common.{◌∙◌, ◌+◌, ◌++◌, ◌∷◌, [], ap, sym}
use Rattle.module_gen.proofs.Steps.{numbers_more}
use Rattle.module_gen.proofs.whole.slots.Goals as goal

pub loop-before-preserved : goal.loop-before-preserved
loop-before-preserved c =
    let n = c.loop-before.before in
    c.in_ok-push.ensures.items ∙ ap (λ before. before ++ (n + 1) ∷ []) c.loop-before.invariant ∙ sym (numbers_more n)
