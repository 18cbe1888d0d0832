use Rattle.std.proofs.Common.{◌∙◌, ap, sym, arith, get_or, Some}
use Rattle.std.proofs.lemmas.Option.{slice_get-get_or}
use Rattle.std.proofs.lemmas.Result.{IfOk-weaker}
use Rattle.code_valid.proofs.Sizes.{few_positions}
use Rattle.code_valid.proofs.Judged.{named_typed, named_marked, named_untyped}
use Rattle.code_valid.proofs.body.check_body_in.Goals as goal

pub survey_body-requires : goal.survey_body-requires
survey_body-requires c =
    let m = c.args.m.now in
    let d = c.args.defined in
    let b = c.index-as_slice-defined.result in
    let is = slice_get-get_or m.bodies d b c.requires.body ∙ ap (λ z. Some z) (sym (c.index-as_slice-defined.is ∙ ap (λ z. get_or z d b) c.as_slice.ensures)) in
    let few = few_positions m d b c.requires.whole is in
    omega (arith, few)

pub returns-clause-typed : goal.returns-clause-typed
returns-clause-typed c =
    let m = c.args.m.now in
    let d = c.args.defined in
    let b = c.index-as_slice-defined.result in
    let is = slice_get-get_or m.bodies d b c.requires.body ∙ ap (λ z. Some z) (sym (c.index-as_slice-defined.is ∙ ap (λ z. get_or z d b) c.as_slice.ensures)) in
    IfOk-weaker c.survey_body.result _ _ (λ _. named_typed m d b c.requires.func c.requires.rules is c.in_ok-env.env c.in_ok-env.ensures) c.survey_body.ensures.typed

pub returns-clause-marks : goal.returns-clause-marks
returns-clause-marks c =
    let m = c.args.m.now in
    let d = c.args.defined in
    let b = c.index-as_slice-defined.result in
    let is = slice_get-get_or m.bodies d b c.requires.body ∙ ap (λ z. Some z) (sym (c.index-as_slice-defined.is ∙ ap (λ z. get_or z d b) c.as_slice.ensures)) in
    IfOk-weaker c.survey_body.result _ _ (named_marked m d b c.requires.func c.requires.rules is c.in_ok-env.env c.in_ok-env.ensures) c.survey_body.ensures.marks

pub returns-clause-invalid : goal.returns-clause-invalid
returns-clause-invalid c =
    let m = c.args.m.now in
    let d = c.args.defined in
    let b = c.index-as_slice-defined.result in
    let is = slice_get-get_or m.bodies d b c.requires.body ∙ ap (λ z. Some z) (sym (c.index-as_slice-defined.is ∙ ap (λ z. get_or z d b) c.as_slice.ensures)) in
    λ q. named_untyped m d b c.requires.func c.requires.rules is c.in_ok-env.env c.in_ok-env.ensures (c.survey_body.ensures.invalid q)
