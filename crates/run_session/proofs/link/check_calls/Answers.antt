use Rattle.std.proofs.Common.{◌≡◌, ap, sym, ◌∙◌, subst}
use Rattle.std.specs.Option.{option_copied}
use Rattle.wasm_sem.specs.Execution.{calls_refusal}
use Rattle.run_session.specs.Linking.{TellsRefusal, exported_type, type_refusal}
use Rattle.run_session.proofs.Refusals.{call_passed, call_told, told_on}
use Rattle.run_session.proofs.link.check_calls.Goals as goal

pub returns-in_err-check_call : goal.returns-in_err-check_call
returns-in_err-check_call c =
    let m = c.args.m.now in
    let n = c.loop-index.index in
    let call = c.index-calls-index.result in
    let fault = c.in_err-check_call.field-0.0 in
    let type_is : option_copied c.exported_type-function.result ≡ exported_type m call.export.bytes = c.exported_type-function.ensures ∙ ap (exported_type m) c.as_str.ensures in
    told_on c.from_residual-in_err-check_call.result fault (calls_refusal m 0 c.args.calls.now) c.from_residual-in_err-check_call.ensures.1
    (subst (TellsRefusal fault) (sym c.loop-index.invariant)
    (call_told m c.module.ensures.valid c.module.ensures.complete c.args.calls.now n call c.loop-index-test.true c.index-calls-index.is fault
    (subst (λ t. TellsRefusal fault (type_refusal n call.args t)) type_is c.in_err-check_call.ensures)))

pub loop-index-preserved : goal.loop-index-preserved
loop-index-preserved c =
    let m = c.args.m.now in
    let n = c.loop-index.index in
    let call = c.index-calls-index.result in
    let type_is : option_copied c.exported_type-function.result ≡ exported_type m call.export.bytes = c.exported_type-function.ensures ∙ ap (exported_type m) c.as_str.ensures in
    c.loop-index.invariant
    ∙ call_passed m c.module.ensures.valid c.module.ensures.complete c.args.calls.now n call c.loop-index-test.true c.index-calls-index.is
    (ap (type_refusal n call.args) (sym type_is) ∙ c.in_ok-check_call.ensures)
