use Rattle.std.proofs.Common.{arith, ◌∙◌, ◌-◌, ap, sym, take}
use Rattle.std.proofs.lemmas.Result.{err_from_is_err_and}
use Rattle.code_valid.specs.Checking.{take_types}
use Rattle.code_valid.specs.Control.{innermost_stack}
use Rattle.code_valid.proofs.Moves.{pop_more, pop_fails, on_refusal, refused, kept}
use Rattle.code_valid.proofs.blocks.OpenBlocks.pop_all.Goals as goal

pub loop-left-preserved : goal.loop-left-preserved
loop-left-preserved c =
    let h = c.in_ok-pop.ensures in
    record {
      within = omega arith;
      so_far = c.loop-left.invariant.so_far ∙ pop_more _ c.loop-left.left _ _ _ _ (omega arith) (omega arith) h.1
          ∙ ap (λ z. take_types (take (c.loop-left.left - 1) c.args.types.now) (innermost_stack z)) (sym h.2);
      same = kept c.args.self.now c.loop-left.self c.pop.new.self h.0 c.loop-left.invariant.same h.2;
    }

pub returns-in_err-pop : goal.returns-in_err-pop
returns-in_err-pop c =
    let p = err_from_is_err_and c.from_residual.result c.from_residual.ensures.1 in
    rw (p.1, p.2) (on_refusal c.in_err-pop.field-0.0 _ _
    (λ h. c.loop-left.invariant.so_far ∙ pop_fails _ c.loop-left.left _ _ (omega arith) (omega arith) h)
    (refused c.in_err-pop.field-0.0 _ c.in_err-pop.ensures))
