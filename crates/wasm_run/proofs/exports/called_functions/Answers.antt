use Rattle.std.proofs.Common.{◌≡◌, ℕ, ◌+◌, ◌++◌, ◌∷◌, ◌∙◌, Some, None, List, [], length, map, take, slice_get, refl, sym, ap, subst, arith}
use Rattle.std.specs.Prelude.{Option}
use Rattle.std.proofs.lemmas.List.{take_more, take_all, map-append}
use Rattle.std.proofs.lemmas.Option.{slice_get_read}
use Rattle.wasm_sem.specs.declared.Call.{Call}
use Rattle.wasm_sem.specs.Execution.{exported_func, calls_refusal}
use Rattle.wasm_sem.proofs.SoundEntries.{no_refusal}
use Rattle.wasm_run.proofs.NextCalls.{call_exported}
use Rattle.wasm_run.proofs.exports.called_functions.Goals as goal

pub unreachable-requires : goal.unreachable-requires
unreachable-requires c =
    let m = c.args.linked.now in
    let cs : List Call = c.as_slice-call-items.result.now in
    let x : Call = c.call-item.result in
    let none : exported_func x.export.bytes m.exports ≡ None = sym (c.in-None.ensures.value ∙ c.in_ok-named.ensures c.as_str.result.now ∙ ap (exported_func c.as_str.result.now) c.as_slice.ensures ∙ ap (λ bs. exported_func bs m.exports) c.as_str.ensures) in
    let at : slice_get cs c.loop-call.call-index ≡ Some x = slice_get_read cs (length cs) c.loop-call.call-index x refl (omega (arith, c.loop-call-test.true)) c.call-item.is in
    call_exported m c.args.script.now.calls 0 c.loop-call.call-index x (no_refusal (calls_refusal m 0 c.args.script.now.calls) _ c.requires).0 (subst (λ (cs : List Call). slice_get cs c.loop-call.call-index ≡ Some x) c.as_slice-call-items.ensures at) none

pub loop-call-preserved : goal.loop-call-preserved
loop-call-preserved c =
    let m = c.args.linked.now in
    let cs : List Call = c.as_slice-call-items.result.now in
    let x : Call = c.call-item.result in
    let i = c.loop-call.call-index in
    let f = c.in-Some.function.now in
    let named : Call → Option ℕ = λ c. exported_func c.export.bytes m.exports in
    let found : Some f ≡ named x = c.in-Some.ensures.value ∙ c.in_ok-named.ensures c.as_str.result.now ∙ ap (exported_func c.as_str.result.now) c.as_slice.ensures ∙ ap (λ bs. exported_func bs m.exports) c.as_str.ensures in
    let more : take (i + 1) cs ≡ take i cs ++ x ∷ [] = take_more cs i x (omega (arith, c.loop-call-test.true)) ∙ ap (λ (y : Call). take i cs ++ y ∷ []) (sym c.call-item.is) in
    ap (map Some) c.in_ok-push-in-Some.ensures.items ∙ map-append Some c.loop-call.functions.items (f ∷ [])
    ∙ ap (λ os. os ++ Some f ∷ []) c.loop-call.invariant ∙ ap (λ o. map named (take i cs) ++ o ∷ []) found
    ∙ sym (map-append named (take i cs) (x ∷ [])) ∙ ap (map named) (sym more)

pub returns : goal.returns
returns c =
    let m = c.args.linked.now in
    let cs : List Call = c.as_slice-call-items.result.now in
    c.loop-call.invariant ∙ ap (map (λ (c : Call). exported_func c.export.bytes m.exports)) (take_all c.loop-call.call-index cs (omega (arith, c.loop-call-test.false)) ∙ c.as_slice-call-items.ensures)
