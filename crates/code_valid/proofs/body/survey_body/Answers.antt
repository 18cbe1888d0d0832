use Rattle.std.proofs.Common.{◌∙◌, ap}
use Rattle.std.proofs.lemmas.Result.{err_from_is_err_and}
use Rattle.ctrl_stack.specs.Stack.{function_stack}
use Rattle.code_valid.specs.Control.{control_of}
use Rattle.code_valid.proofs.Judged.{on_invalid, begun_none, begun_bad, begun_typed, begun_marks}
use Rattle.code_valid.proofs.body.survey_body.Goals as goal

pub returns-in_err-survey_code-clause-invalid : goal.returns-in_err-survey_code-clause-invalid
returns-in_err-survey_code-clause-invalid c =
    let p = err_from_is_err_and c.from_residual-in_err-survey_code.result c.from_residual-in_err-survey_code.ensures.1 in
    let begun = c.in_ok-blocks.ensures ∙ ap (λ z. control_of (function_stack z)) (c.in_ok-results.ensures ∙ c.results.ensures) in
    rw (p.1, p.2) (λ q. begun_none c.args.env.now c.args.code.now c.in_ok-blocks.blocks begun c.new-walk.result c.new-walk.ensures
    (on_invalid c.in_err-survey_code.field-0.0 _ c.in_err-survey_code.ensures.surveyed q))

pub returns-in_err-end-clause-invalid : goal.returns-in_err-end-clause-invalid
returns-in_err-end-clause-invalid c =
    let p = err_from_is_err_and c.from_residual-in_err-end.result c.from_residual-in_err-end.ensures.1 in
    let begun = c.in_ok-blocks.ensures ∙ ap (λ z. control_of (function_stack z)) (c.in_ok-results.ensures ∙ c.results.ensures) in
    let h = c.in_ok-survey_code.ensures.surveyed in
    rw (p.1, p.2) (λ q. begun_bad c.args.env.now c.args.code.now c.in_ok-blocks.blocks begun c.new-walk.result c.new-walk.ensures
    h.0 c.survey_code.new.walk h.1 c.survey_code.new.blocks h.2 (on_invalid c.in_err-end.field-0.0 _ c.in_err-end.ensures q))

pub returns-clause-typed : goal.returns-clause-typed
returns-clause-typed c =
    let begun = c.in_ok-blocks.ensures ∙ ap (λ z. control_of (function_stack z)) (c.in_ok-results.ensures ∙ c.results.ensures) in
    let h = c.in_ok-survey_code.ensures.surveyed in
    begun_typed c.args.env.now c.args.code.now c.in_ok-blocks.blocks begun c.new-walk.result c.new-walk.ensures
    h.0 c.survey_code.new.walk h.1 c.survey_code.new.blocks h.2 c.in_ok-end.ensures

pub returns-clause-marks : goal.returns-clause-marks
returns-clause-marks c =
    let begun = c.in_ok-blocks.ensures ∙ ap (λ z. control_of (function_stack z)) (c.in_ok-results.ensures ∙ c.results.ensures) in
    let h = c.in_ok-survey_code.ensures.surveyed in
    rw (c.from_vec.ensures, c.finish-marks.ensures.marks, c.finish-marks.ensures.height)
    (begun_marks c.args.env.now c.args.code.now c.in_ok-blocks.blocks begun c.new-walk.result c.new-walk.ensures
    h.0 c.survey_code.new.walk h.1 c.survey_code.new.blocks h.2 c.in_ok-end.ensures)
