use Rattle.std.proofs.Common.{◌≡◌, ◌∙◌, [], ◌∷◌, ◌++◌, ap, ap₂, arith, map, sym}
use Rattle.std.specs.List.{range_with_len}
use Rattle.module_gen.specs.Bodies.{func_index, type_index}
use Rattle.module_gen.proofs.Steps.{indices_more}
use Rattle.module_gen.proofs.whole.type_indices.Goals as goal

pub loop-before-preserved : goal.loop-before-preserved
loop-before-preserved c =
    c.in_ok-push.ensures.items ∙ ap₂ (λ all index. all ++ index ∷ []) c.loop-before.invariant (c.type_index.ensures ∙ ap type_index c.param_type.ensures)
    ∙ sym (indices_more c.loop-before.before)

pub returns : goal.returns
returns c =
    let all : c.loop-before.before ≡ c.args.count = omega (arith, c.loop-before.auto.before-end, c.loop-before-test.false) in
    c.in_ok-push-2.ensures.items ∙ ap (λ before. before ++ 1 ∷ []) (c.loop-before.invariant ∙ ap (λ n. map func_index (range_with_len 1 n)) all)
