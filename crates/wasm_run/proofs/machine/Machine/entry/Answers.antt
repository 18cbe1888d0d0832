use Rattle.std.proofs.Common.{◌≡◌, ℤ, ◌∙◌, Some, List, [], length, slice_get, refl, sym, ap, subst, arith}
use Rattle.std.specs.Prelude.{slice_index_or}
use Rattle.std.proofs.lemmas.Option.{slice_get_read}
use Rattle.wasm_sem.specs.declared.Call.{Call}
use Rattle.wasm_sem.specs.declared.Script.{Script}
use Rattle.wasm_sem.specs.Execution.{Callee, instance}
use Rattle.wasm_run.specs.Entries.{EntersWith}
use Rattle.wasm_run.specs.Moves.{env_beside}
use Rattle.wasm_run.specs.Progress.{IsStage, IsEntry}
use Rattle.wasm_run.specs.Running.{Run, configuration_of, IsInside}
use Rattle.std.specs.Prelude.{ltb}
use Rattle.std.proofs.lemmas.Bool.{lt-ltb}
use Rattle.wasm_run.proofs.NextCalls.{nothing_there, number_within, called_count, start_next, call_next, enters_outside}
use Rattle.wasm_run.proofs.machine.Machine.entry.Goals as goal

pub index-requires : goal.index-requires
index-requires g c =
    let r : Run = c.self.inside.running in
    let here = subst (λ st. IsStage r.module st (env_beside (configuration_of r)).phase) c.in-Call.is c.self.invariant.0.tells.stage in
    let within = number_within r.module r.script c.self.invariant.0.linked c.self.inside.functions.items r.made c.in-Call.number c.self.invariant.0.functions_are here in
    omega (arith, within, c.self.inside.functions.ok.0)

pub unreachable-requires : goal.unreachable-requires
unreachable-requires g c =
    let r : Run = c.self.inside.running in
    let here = subst (λ st. IsStage r.module st (env_beside (configuration_of r)).phase) c.in-Call.is c.self.invariant.0.tells.stage in
    let within = number_within r.module r.script c.self.invariant.0.linked c.self.inside.functions.items r.made c.in-Call.number c.self.invariant.0.functions_are here in
    let count = called_count r.module r.script c.self.inside.functions.items c.self.invariant.0.functions_are in
    let calls : c.as_slice.result.now ≡ r.script.calls = c.as_slice.ensures ∙ ap (λ (s : Script). s.calls) c.script.ensures in
    nothing_there c.get.result (ltb c.in-Call.number (length c.as_slice.result.now)) c.get.ensures.lookup.0 (lt-ltb c.in-Call.number (length c.as_slice.result.now) (omega (arith, within, count, ap length calls))) c.in_default.not-Some

pub returns-in-Start : goal.returns-in-Start
returns-in-Start g c =
    let r : Run = c.self.inside.running in
    let here = subst (λ st. IsStage r.module st (env_beside (configuration_of r)).phase) c.in-Start.is c.self.invariant.0.tells.stage in
    subst (λ (r : Run). IsEntry r c.in-Start.func []) c.self.view_is
    (enters_outside (instance r.module r.script) (configuration_of r) c.in-Start.func [] (subst (λ (r : Run). IsInside (configuration_of r) → ⊥) (sym c.self.view_is) c.requires)
    (start_next r.module r.script c.self.invariant.0.linked (env_beside (configuration_of r)) c.in-Start.func here.0 here.1))

pub returns-in-Some : goal.returns-in-Some
returns-in-Some g c =
    let r : Run = c.self.inside.running in
    let n = c.in-Call.number in
    let fs = c.self.inside.functions.items in
    let call : Call = c.in-Some.call.now in
    let here = subst (λ st. IsStage r.module st (env_beside (configuration_of r)).phase) c.in-Call.is c.self.invariant.0.tells.stage in
    let within = number_within r.module r.script c.self.invariant.0.linked fs r.made n c.self.invariant.0.functions_are here in
    let count = called_count r.module r.script fs c.self.invariant.0.functions_are in
    let calls : c.as_slice.result.now ≡ r.script.calls = c.as_slice.ensures ∙ ap (λ (s : Script). s.calls) c.script.ensures in
    let at : slice_get r.script.calls n ≡ Some call =
    slice_get_read r.script.calls (length r.script.calls) n call refl (omega (arith, within, count)) (subst (λ (cs : List Call). call ≡ slice_index_or cs n call) calls c.in-Some.ensures.lookup.1) in
    let there : slice_get fs n ≡ Some c.index.result.now = slice_get_read fs (length fs) n c.index.result.now refl within c.index.ensures in
    let next : (called : Callee) × EntersWith (instance r.module r.script) (env_beside (configuration_of r)) c.index.result.now call.args called =
    call_next r.module r.script c.self.invariant.0.linked (env_beside (configuration_of r)) fs n c.index.result.now call c.self.invariant.0.functions_are at there here in
    subst (λ (numbers : List ℤ). IsEntry c.args.self.now c.index.result.now numbers) (sym c.as_slice-in-Call.ensures)
    (subst (λ (r : Run). IsEntry r c.index.result.now call.args) c.self.view_is
    (enters_outside (instance r.module r.script) (configuration_of r) c.index.result.now call.args (subst (λ (r : Run). IsInside (configuration_of r) → ⊥) (sym c.self.view_is) c.requires) next))
