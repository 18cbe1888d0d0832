use Rattle.std.proofs.Common.{◌≡◌}
use Rattle.serde_json.specs.View.{view}
use Rattle.json_form.specs.declared.form.FormFault.TheVariants.{Wrong}
use Rattle.static_info.proofs.InfoShapes.{info_passed, info_refused, info_fault}
use Rattle.static_info.proofs.parsing.read_info.Goals as goal

pub returns-in-Ok-clause-ok : goal.returns-in-Ok-clause-ok
returns-in-Ok-clause-ok c =
    info_passed (view c.args.value.now) c.in-Ok.info c.are_functions.result c.as_slice.result.now c.in-Ok.ensures c.are_functions.ensures c.as_slice.ensures c.if-are_functions.true

pub returns-in-Ok-2-clause-wrong : goal.returns-in-Ok-2-clause-wrong
returns-in-Ok-2-clause-wrong c never =
    info_refused (view c.args.value.now) c.in-Ok.info c.are_functions.result c.as_slice.result.now c.in-Ok.ensures c.are_functions.ensures c.as_slice.ensures c.if-are_functions.false

pub returns-in-Err-clause-wrong : goal.returns-in-Err-clause-wrong
returns-in-Err-clause-wrong c is =
    let same : c.in-Err.fault ≡ Wrong = cc (is) in
    info_fault c.in-Err.fault (view c.args.value.now) c.in-Err.ensures same
