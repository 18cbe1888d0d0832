use Rattle.std.proofs.Common.{◌≡◌, ◌∙◌, Some, List, [], ◌++◌, slice_get, sym, ap, subst}
use Rattle.std.specs.Prelude.{ℕ, Option}
use Rattle.module_ast.specs.Structure.{code_of, plain, call_indirect}
use Rattle.wasm_sem.specs.declared.Trap.TheVariants.{NoSlot, EmptySlot}
use Rattle.wasm_sem.specs.Laws.{slots_in}
use Rattle.wasm_sem.specs.Execution.{instance, Frame, step, traps, opening_configuration, told_items}
use Rattle.wasm_sem.proofs.Ended.{slots_stay}
use Rattle.run_stack.specs.Kept.{under}
use Rattle.wasm_run.specs.Reaching.{IsAtSlot}
use Rattle.wasm_run.specs.Running.{Run, configuration_of, Innermost}
use Rattle.wasm_run.proofs.Targets.{through, on_top, innermost_at, no_slot, empty_slot}
use Rattle.wasm_run.proofs.running.Running.through.Goals as goal

pub top_i32-slot-requires : goal.top_i32-slot-requires
top_i32-slot-requires c =
    let x = (through c.self.inside.module.now c.self.inside.script.now c.self.inside.made c.self.inside.stack c.self.inside.memory c.self.inside.globals c.self.invariant.running c.args.ty (code_of c.args.rest.now)
    (subst (λ (r : Run). Innermost (λ (fr : Frame). fr.top.rest ≡ plain (call_indirect c.args.ty) (code_of c.args.rest.now)) (configuration_of r)) (sym c.self.view_is) c.requires)) in (
      x.slot,
      x.ops ++ under x.frame x.below,
      on_top c.self.inside.module.now c.self.inside.script.now c.self.inside.made c.self.inside.stack c.self.inside.memory c.self.inside.globals c.self.invariant.running c.args.ty (code_of c.args.rest.now)
          (through c.self.inside.module.now c.self.inside.script.now c.self.inside.made c.self.inside.stack c.self.inside.memory c.self.inside.globals c.self.invariant.running c.args.ty (code_of c.args.rest.now)
          (subst (λ (r : Run). Innermost (λ (fr : Frame). fr.top.rest ≡ plain (call_indirect c.args.ty) (code_of c.args.rest.now)) (configuration_of r)) (sym c.self.view_is) c.requires)),
    )

pub in_slot-requires-clause-at : goal.in_slot-requires-clause-at
in_slot-requires-clause-at c =
    subst (λ (r : Run). Innermost (IsAtSlot c.args.ty (code_of c.args.rest.now) c.top_i32-slot.result) (configuration_of r)) c.self.view_is
    (innermost_at c.self.inside.module.now c.self.inside.script.now c.self.inside.made c.self.inside.stack c.self.inside.memory c.self.inside.globals c.self.invariant.running c.args.ty (code_of c.args.rest.now)
    (through c.self.inside.module.now c.self.inside.script.now c.self.inside.made c.self.inside.stack c.self.inside.memory c.self.inside.globals c.self.invariant.running c.args.ty (code_of c.args.rest.now)
    (subst (λ (r : Run). Innermost (λ (fr : Frame). fr.top.rest ≡ plain (call_indirect c.args.ty) (code_of c.args.rest.now)) (configuration_of r)) (sym c.self.view_is) c.requires)) c.top_i32-slot.result c.top_i32-slot.ensures)

pub in_slot-requires-clause-there : goal.in_slot-requires-clause-there
in_slot-requires-clause-there c =
    subst (λ (r : Run). slice_get (slots_in (configuration_of r)) c.top_i32-slot.result ≡ Some (Some c.in-Some-Some.func)) c.self.view_is
    (ap (λ (slots : List (Option ℕ)). slice_get slots c.top_i32-slot.result) (sym (c.self.invariant.table_is ∙ sym (slots_stay (instance c.self.inside.module.now c.self.inside.script.now) c.self.inside.made (opening_configuration c.self.inside.module.now c.self.inside.script.now)))) ∙ sym c.slot.ensures ∙ c.in-Some-Some.is ∙ ap Some c.in-Some-Some.field-0-is)

pub returns-in-None : goal.returns-in-None
returns-in-None c =
    subst (λ (r : Run). (step (instance r.module r.script) (configuration_of r) ≡ traps NoSlot) × (told_items (instance r.module r.script) (configuration_of r) ≡ [])) c.self.view_is
    (no_slot c.self.inside.module.now c.self.inside.script.now c.self.inside.made c.self.inside.stack c.self.inside.memory c.self.inside.globals c.self.invariant.running c.args.ty (code_of c.args.rest.now)
    (through c.self.inside.module.now c.self.inside.script.now c.self.inside.made c.self.inside.stack c.self.inside.memory c.self.inside.globals c.self.invariant.running c.args.ty (code_of c.args.rest.now)
    (subst (λ (r : Run). Innermost (λ (fr : Frame). fr.top.rest ≡ plain (call_indirect c.args.ty) (code_of c.args.rest.now)) (configuration_of r)) (sym c.self.view_is) c.requires)) c.top_i32-slot.result c.top_i32-slot.ensures (ap (λ (slots : List (Option ℕ)). slice_get slots c.top_i32-slot.result) (sym (c.self.invariant.table_is ∙ sym (slots_stay (instance c.self.inside.module.now c.self.inside.script.now) c.self.inside.made (opening_configuration c.self.inside.module.now c.self.inside.script.now)))) ∙ sym c.slot.ensures ∙ c.in-None.is))

pub returns-in-Some-None : goal.returns-in-Some-None
returns-in-Some-None c =
    subst (λ (r : Run). (step (instance r.module r.script) (configuration_of r) ≡ traps EmptySlot) × (told_items (instance r.module r.script) (configuration_of r) ≡ [])) c.self.view_is
    (empty_slot c.self.inside.module.now c.self.inside.script.now c.self.inside.made c.self.inside.stack c.self.inside.memory c.self.inside.globals c.self.invariant.running c.args.ty (code_of c.args.rest.now)
    (through c.self.inside.module.now c.self.inside.script.now c.self.inside.made c.self.inside.stack c.self.inside.memory c.self.inside.globals c.self.invariant.running c.args.ty (code_of c.args.rest.now)
    (subst (λ (r : Run). Innermost (λ (fr : Frame). fr.top.rest ≡ plain (call_indirect c.args.ty) (code_of c.args.rest.now)) (configuration_of r)) (sym c.self.view_is) c.requires)) c.top_i32-slot.result c.top_i32-slot.ensures (ap (λ (slots : List (Option ℕ)). slice_get slots c.top_i32-slot.result) (sym (c.self.invariant.table_is ∙ sym (slots_stay (instance c.self.inside.module.now c.self.inside.script.now) c.self.inside.made (opening_configuration c.self.inside.module.now c.self.inside.script.now)))) ∙ sym c.slot.ensures ∙ c.in-Some-None.is ∙ ap Some c.in-Some-None.field-0-is))
