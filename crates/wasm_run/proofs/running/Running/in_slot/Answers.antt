use Rattle.std.proofs.Common.{◌≡◌, ◌∙◌, ◌<◌, Some, true, false, List, [], slice_get, length, sym, ap, subst}
use Rattle.std.specs.Prelude.{slice_index_or}
use Rattle.std.proofs.lemmas.Option.{slice_get_read}
use Rattle.wasm_sem.specs.Types.{FuncType}
use Rattle.module_ast.specs.Structure.{code_of}
use Rattle.wasm_sem.specs.declared.Trap.TheVariants.{WrongType}
use Rattle.wasm_sem.specs.Laws.{slots_in}
use Rattle.wasm_sem.specs.Execution.{callee_type, callees_of, instance, same_func_type, step, traps, told_items}
use Rattle.wasm_run.specs.Reaching.{Reaches, IsAtSlot}
use Rattle.run_store.specs.Resolved.{callee_for}
use Rattle.wasm_run.specs.Running.{Run, configuration_of, Innermost}
use Rattle.wasm_run.proofs.Targets.{type_there, slot_there, slot_reaches, slot_wrong}
use Rattle.wasm_run.proofs.running.Running.in_slot.Goals as goal

pub bounds-as_slice-ty : goal.bounds-as_slice-ty
bounds-as_slice-ty c =
    subst (λ (ts : List FuncType). c.args.ty < length ts) (sym c.as_slice.ensures)
    (type_there c.self.inside.module.now c.self.inside.script.now c.self.inside.made c.self.inside.stack c.self.inside.memory c.self.inside.globals c.self.invariant.running c.args.ty (code_of c.args.rest.now) c.args.slot c.args.func
    (subst (λ (r : Run). Innermost (IsAtSlot c.args.ty (code_of c.args.rest.now) c.args.slot) (configuration_of r)) (sym c.self.view_is) c.requires.at)
    (subst (λ (r : Run). slice_get (slots_in (configuration_of r)) c.args.slot ≡ Some (Some c.args.func)) (sym c.self.view_is) c.requires.there))

pub called-function-requires : goal.called-function-requires
called-function-requires c =
    subst (λ (r : Run). c.args.func < length (callees_of r.module)) c.self.view_is
    (slot_there c.self.inside.module.now c.self.inside.script.now c.self.inside.made c.self.inside.stack c.self.inside.memory c.self.inside.globals c.self.invariant.running c.args.ty (code_of c.args.rest.now) c.args.slot c.args.func
    (subst (λ (r : Run). Innermost (IsAtSlot c.args.ty (code_of c.args.rest.now) c.args.slot) (configuration_of r)) (sym c.self.view_is) c.requires.at)
    (subst (λ (r : Run). slice_get (slots_in (configuration_of r)) c.args.slot ≡ Some (Some c.args.func)) (sym c.self.view_is) c.requires.there))

pub returns-then-same_func_type : goal.returns-then-same_func_type
returns-then-same_func_type c =
    let there = type_there c.self.inside.module.now c.self.inside.script.now c.self.inside.made c.self.inside.stack c.self.inside.memory c.self.inside.globals c.self.invariant.running c.args.ty (code_of c.args.rest.now) c.args.slot c.args.func
    (subst (λ (r : Run). Innermost (IsAtSlot c.args.ty (code_of c.args.rest.now) c.args.slot) (configuration_of r)) (sym c.self.view_is) c.requires.at)
    (subst (λ (r : Run). slice_get (slots_in (configuration_of r)) c.args.slot ≡ Some (Some c.args.func)) (sym c.self.view_is) c.requires.there) in
    let asked : slice_get c.self.inside.module.now.types c.args.ty ≡ Some c.index-as_slice-ty.result =
    slice_get_read c.self.inside.module.now.types (length c.self.inside.module.now.types) c.args.ty c.index-as_slice-ty.result (λ i. length c.self.inside.module.now.types) there
    (subst (λ (ts : List FuncType). c.index-as_slice-ty.result ≡ slice_index_or ts c.args.ty c.index-as_slice-ty.result) c.as_slice.ensures c.index-as_slice-ty.is) in
    let stands = subst (λ (r : Run). slice_get (callees_of r.module) c.args.func ≡ Some (callee_for c.called-function.result)) (sym c.self.view_is) c.called-function.ensures.stands in
    let same : same_func_type (callee_type (callee_for c.called-function.result)) c.index-as_slice-ty.result ≡ true =
    ap (λ (t : FuncType). same_func_type t c.index-as_slice-ty.result) (sym c.ty.ensures) ∙ sym c.same_func_type.ensures ∙ c.if-same_func_type.true in (
      subst (λ (r : Run). Reaches (instance r.module r.script) (configuration_of r) (Some c.args.slot) c.args.func (code_of c.args.rest.now) (callee_for c.called-function.result)) c.self.view_is
          (slot_reaches c.self.inside.module.now c.self.inside.script.now c.self.inside.made c.self.inside.stack c.self.inside.memory c.self.inside.globals c.self.invariant.running c.args.ty (code_of c.args.rest.now) c.args.slot c.args.func
          (subst (λ (r : Run). Innermost (IsAtSlot c.args.ty (code_of c.args.rest.now) c.args.slot) (configuration_of r)) (sym c.self.view_is) c.requires.at)
          (subst (λ (r : Run). slice_get (slots_in (configuration_of r)) c.args.slot ≡ Some (Some c.args.func)) (sym c.self.view_is) c.requires.there) (callee_for c.called-function.result) stands c.index-as_slice-ty.result asked same),
      c.called-function.ensures.size,
    )

pub returns-else-same_func_type : goal.returns-else-same_func_type
returns-else-same_func_type c =
    let there = type_there c.self.inside.module.now c.self.inside.script.now c.self.inside.made c.self.inside.stack c.self.inside.memory c.self.inside.globals c.self.invariant.running c.args.ty (code_of c.args.rest.now) c.args.slot c.args.func
    (subst (λ (r : Run). Innermost (IsAtSlot c.args.ty (code_of c.args.rest.now) c.args.slot) (configuration_of r)) (sym c.self.view_is) c.requires.at)
    (subst (λ (r : Run). slice_get (slots_in (configuration_of r)) c.args.slot ≡ Some (Some c.args.func)) (sym c.self.view_is) c.requires.there) in
    let asked : slice_get c.self.inside.module.now.types c.args.ty ≡ Some c.index-as_slice-ty.result =
    slice_get_read c.self.inside.module.now.types (length c.self.inside.module.now.types) c.args.ty c.index-as_slice-ty.result (λ i. length c.self.inside.module.now.types) there
    (subst (λ (ts : List FuncType). c.index-as_slice-ty.result ≡ slice_index_or ts c.args.ty c.index-as_slice-ty.result) c.as_slice.ensures c.index-as_slice-ty.is) in
    let stands = subst (λ (r : Run). slice_get (callees_of r.module) c.args.func ≡ Some (callee_for c.called-function.result)) (sym c.self.view_is) c.called-function.ensures.stands in
    let other : same_func_type (callee_type (callee_for c.called-function.result)) c.index-as_slice-ty.result ≡ false =
    ap (λ (t : FuncType). same_func_type t c.index-as_slice-ty.result) (sym c.ty.ensures) ∙ sym c.same_func_type.ensures ∙ c.if-same_func_type.false in
    subst (λ (r : Run). (step (instance r.module r.script) (configuration_of r) ≡ traps WrongType) × (told_items (instance r.module r.script) (configuration_of r) ≡ [])) c.self.view_is
    (slot_wrong c.self.inside.module.now c.self.inside.script.now c.self.inside.made c.self.inside.stack c.self.inside.memory c.self.inside.globals c.self.invariant.running c.args.ty (code_of c.args.rest.now) c.args.slot c.args.func
    (subst (λ (r : Run). Innermost (IsAtSlot c.args.ty (code_of c.args.rest.now) c.args.slot) (configuration_of r)) (sym c.self.view_is) c.requires.at)
    (subst (λ (r : Run). slice_get (slots_in (configuration_of r)) c.args.slot ≡ Some (Some c.args.func)) (sym c.self.view_is) c.requires.there) (callee_for c.called-function.result) stands c.index-as_slice-ty.result asked other)
