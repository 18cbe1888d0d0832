use Rattle.std.proofs.Common.{◌+◌, drop, arith, ap, ◌∙◌, rules}
use Rattle.std.proofs.lemmas.Grind.{common_steps}
use Rattle.module_ast.specs.Structure.{weight, before, code_of}
use Rattle.module_ast.specs.Places.{code_size}
use Rattle.code_valid.proofs.Moves.{kept, pop_all_last, begins_live}
use Rattle.code_valid.proofs.Sequences.{more_surveyed}
use Rattle.module_ast.proofs.Plains.{next_instr, weight_before, size_before}
use Rattle.code_valid.proofs.surveying.+surveying.Goals as goal

pub survey_code-loop-instr-preserved : goal.survey_code-loop-instr-preserved
survey_code-loop-instr-preserved t c =
    let s = c.in_ok-survey_instr.ensures.steps in
    let is = c.as_slice-instr-items.result.now in
    let k = c.loop-instr.instr-index in
    let i = c.instr-item.result in
    let rest = code_of (drop (k + 1) is) in
    let next = next_instr is k i (omega arith) c.instr-item.is in
    let weights = ap weight next ∙ weight_before i rest in
    let sizes = ap code_size next ∙ size_before i rest in
    record {
      same = kept c.args.blocks.now c.loop-instr.blocks c.survey_instr.new.blocks s.0 c.loop-instr.invariant.same s.1;
      so_far = more_surveyed c.args.env.now c.args.blocks.now c.loop-instr.blocks c.survey_instr.new.blocks c.loop-instr.walk c.survey_instr.new.walk
          rest (code_of (drop k is)) (before i) s.0 c.loop-instr.invariant.same s.1 s.2 next _ c.loop-instr.invariant.so_far;
      lighter = omega (arith, weights, c.loop-instr.invariant.lighter);
      position = omega (arith, sizes, c.loop-instr.invariant.position, c.in_ok-survey_instr.ensures.position);
    }

pub survey_code-survey_instr-requires : goal.survey_code-survey_instr-requires
survey_code-survey_instr-requires t c = grind (arith, common_steps)

pub survey_code-returns-in_err-survey_instr-clause-surveyed : goal.survey_code-returns-in_err-survey_instr-clause-surveyed
survey_code-returns-in_err-survey_instr-clause-surveyed t c = grind (arith, common_steps)

pub survey_code-returns-clause-surveyed : goal.survey_code-returns-clause-surveyed
survey_code-returns-clause-surveyed t c = grind (arith, common_steps)

pub survey_code-returns-clause-position : goal.survey_code-returns-clause-position
survey_code-returns-clause-position t c = grind (arith, common_steps)

pub survey_if-returns-in_err-pop_i32-clause-steps : goal.survey_if-returns-in_err-pop_i32-clause-steps
survey_if-returns-in_err-pop_i32-clause-steps t c = grind (arith, pop_all_last)

pub survey_if-returns-in_err-pop_all-clause-steps : goal.survey_if-returns-in_err-pop_all-clause-steps
survey_if-returns-in_err-pop_all-clause-steps t c = grind (arith, pop_all_last)

pub survey_if-returns-in_err-survey_part-clause-steps : goal.survey_if-returns-in_err-survey_part-clause-steps
survey_if-returns-in_err-survey_part-clause-steps t c = grind (arith, pop_all_last)

pub survey_if-returns-clause-steps : goal.survey_if-returns-clause-steps
survey_if-returns-clause-steps t c = grind (arith, pop_all_last)

pub survey_if_else-returns-in_err-pop_i32-clause-steps : goal.survey_if_else-returns-in_err-pop_i32-clause-steps
survey_if_else-returns-in_err-pop_i32-clause-steps t c = grind (arith, pop_all_last)

pub survey_if_else-returns-in_err-pop_all-clause-steps : goal.survey_if_else-returns-in_err-pop_all-clause-steps
survey_if_else-returns-in_err-pop_all-clause-steps t c = grind (arith, pop_all_last)

pub survey_if_else-returns-in_err-survey_part-clause-steps : goal.survey_if_else-returns-in_err-survey_part-clause-steps
survey_if_else-returns-in_err-survey_part-clause-steps t c = grind (arith, pop_all_last)

pub survey_if_else-returns-in_err-survey_part-2-clause-steps : goal.survey_if_else-returns-in_err-survey_part-2-clause-steps
survey_if_else-returns-in_err-survey_part-2-clause-steps t c = grind (arith, pop_all_last)

pub survey_if_else-returns-clause-steps : goal.survey_if_else-returns-clause-steps
survey_if_else-returns-clause-steps t c = grind (arith, pop_all_last)

pub survey_part-returns-in_err-survey_code-clause-passes : goal.survey_part-returns-in_err-survey_code-clause-passes
survey_part-returns-in_err-survey_code-clause-passes t c = grind (arith, begins_live)

pub survey_part-returns-in_err-pop_block-clause-passes : goal.survey_part-returns-in_err-pop_block-clause-passes
survey_part-returns-in_err-pop_block-clause-passes t c = grind (arith, begins_live)

pub survey_part-returns-clause-passes : goal.survey_part-returns-clause-passes
survey_part-returns-clause-passes t c = grind (arith, begins_live)

pub survey_block-returns-clause-steps : goal.survey_block-returns-clause-steps
survey_block-returns-clause-steps t c = search rules

pub survey_loop-returns-clause-steps : goal.survey_loop-returns-clause-steps
survey_loop-returns-clause-steps t c = search rules
