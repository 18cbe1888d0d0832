use Rattle.std.proofs.Common.{◌≡◌, ◌≤◌, ◌+◌, ◌*◌, drop}
use Rattle.module_ast.specs.Structure.{weight, done, before, code_of}
use Rattle.module_ast.specs.Places.{code_size}
use Rattle.module_ast.specs.declared.code.Instr.TheVariants.{Block, Loop, If, IfElse}
use Rattle.code_valid.specs.Survey.{survey}
use Rattle.code_valid.specs.Control.{innermost_stack, with_innermost_stack, context_in}
use Rattle.code_valid.proofs.surveying.+surveying.Given as goal

abbrev pub decreases-survey_code : goal.decreases-survey_code
decreases-survey_code l = 4 * weight l.code.now + 2

abbrev pub decreases-survey_part : goal.decreases-survey_part
decreases-survey_part l = 4 * weight l.body.now + 3

abbrev pub decreases-survey_block : goal.decreases-survey_block
decreases-survey_block l = 4 * weight (before (Block l.ty l.body.now) done)

abbrev pub decreases-survey_loop : goal.decreases-survey_loop
decreases-survey_loop l = 4 * weight (before (Loop l.ty l.body.now) done)

abbrev pub decreases-survey_if : goal.decreases-survey_if
decreases-survey_if l = 4 * weight (before (If l.ty l.body.now) done)

abbrev pub decreases-survey_if_else : goal.decreases-survey_if_else
decreases-survey_if_else l = 4 * weight (before (IfElse l.ty l.body.now l.other.now) done)

abbrev pub decreases-survey_instr : goal.decreases-survey_instr
decreases-survey_instr l = 4 * weight (before l.instr.now done) + 1

abbrev pub invariant-survey_code-loop-instr : goal.invariant-survey_code-loop-instr
invariant-survey_code-loop-instr l = record {
  same : l.blocks ≡ with_innermost_stack (innermost_stack l.blocks) l.initial.blocks;
  so_far : survey (context_in l.env l.initial.blocks) l.initial.blocks.innermost.base (code_of (drop l.instr-index l.instr-items)) (innermost_stack l.blocks) l.walk ≡ survey (context_in l.env l.initial.blocks) l.initial.blocks.innermost.base l.code (innermost_stack l.initial.blocks) l.initial.walk;
  lighter : weight (code_of (drop l.instr-index l.instr-items)) ≤ weight l.code;
  position : l.walk.position + code_size (code_of (drop l.instr-index l.instr-items)) ≡ l.initial.walk.position + code_size l.code;
}
