use Rattle.std.proofs.Common.{◌≡◌, ◌∙◌, suc, length, Some, slice_get, refl, sym, ap, subst, true}
use Rattle.std.specs.Prelude.{option_map}
use Rattle.std.proofs.lemmas.Option.{slice_get-map, slice_get_read}
use Rattle.std.proofs.lemmas.Bool.{leb-true}
use Rattle.wasm_sem.specs.Types.{FuncType}
use Rattle.wasm_sem.specs.Execution.{callee_type, callees_of, same_func_type}
use Rattle.run_store.specs.Resolved.{callee_for}
use Rattle.shadow_replay.specs.Replayed.{Replay, Prepares}
use Rattle.shadow_replay.proofs.ShadowEnters.{prepares_locals}
use Rattle.shadow_replay.proofs.shadow.Shadow.prepare.Goals as goal

pub returns : goal.returns
returns c =
    let s = c.self.inside in
    let f = c.in-Some.func in
    let callee = callee_for c.in-Some-get.function.now in
    let items : c.as_slice.result.now ≡ s.functions.items = c.as_slice.ensures.value in
    let function = c.in-Some-get.function.now in
    let read : slice_get s.functions.items f ≡ Some function =
    ap (λ fs. slice_get fs f) (sym items) ∙ slice_get_read c.as_slice.result.now (length c.as_slice.result.now) f function refl (leb-true (suc f) (length c.as_slice.result.now) (sym c.in-Some-get.ensures.lookup.0)) c.in-Some-get.ensures.lookup.1 in
    let found : slice_get (callees_of c.args.self.now.module) f ≡ Some callee =
    ap (λ (r : Replay). slice_get (callees_of r.module) f) (sym c.self.view_is) ∙ (ap (λ cs. slice_get cs f) (sym c.self.invariant.1) ∙ (slice_get-map callee_for s.functions.items f ∙ ap (option_map callee_for) read)) in
    let same : same_func_type (callee_type callee) c.args.asked.now ≡ true =
    ap (λ (ty : FuncType). same_func_type ty c.args.asked.now) (sym c.ty.ensures) ∙ (sym c.same_func_type.ensures ∙ c.if-not-same_func_type.false) in
    subst (λ o. Prepares c.args.loc c.args.asked.now o c.args.args.items c.args.self.now (Some (record { call = Some c.args.loc; locals = c.in_ok-locals.locals.items }))) (sym c.in-Some.is)
    (prepares_locals c.args.loc c.args.asked.now f c.args.args.items c.in_ok-locals.locals.items c.args.self.now callee found same c.in_ok-locals.ensures)
