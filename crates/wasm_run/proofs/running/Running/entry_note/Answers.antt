use Rattle.std.proofs.Common.{◌≡◌, ◌∙◌, ℕ, List, Some, None, ap, sym, subst}
use Rattle.wasm_sem.specs.Types.{ValType, Value, FuncType}
use Rattle.wasm_sem.specs.Execution.{host, callee_type, instance, values_of}
use Rattle.run_store.specs.declared.functions.Function.{Function}
use Rattle.run_store.specs.Resolved.{callee_for}
use Rattle.wasm_run.specs.declared.note.Entry.{Entry}
use Rattle.wasm_run.specs.Answering.{answer_given}
use Rattle.wasm_run.specs.Entries.{EntersNext}
use Rattle.wasm_run.specs.Noting.{noted_items, next_outside}
use Rattle.wasm_run.specs.Running.{Run, configuration_of}
use Rattle.wasm_run.proofs.Noting.{host_noted, other_noted}
use Rattle.wasm_run.proofs.running.Running.entry_note.Goals as goal

abbrev entry_of : ℕ → List Value → Entry
entry_of func args = record { func = func; args = args }

pub returns-clause-note : goal.returns-clause-note
returns-clause-note c =
    let numbers = c.args.numbers.now in
    let ty : FuncType = c.in-Host.ty.now in
    subst (λ (r : Run). noted_items (record { entered = Some c.in_ok-entered.entered; host = Some c.in_ok-host.host }) ≡ next_outside r) c.self.view_is
    (host_noted c.self.inside.module.now c.self.inside.script.now c.self.inside.made c.self.inside.stack c.self.inside.memory c.self.inside.globals c.self.inside.hosts c.self.invariant.running c.self.invariant.counted c.args.func numbers c.in_ok-entered.entered ty
    (subst (λ (r : Run). EntersNext (instance r.module r.script) (configuration_of r) c.args.func numbers (host ty)) (sym c.self.view_is)
    (subst (EntersNext (instance c.args.self.now.module c.args.self.now.script) (configuration_of c.args.self.now) c.args.func numbers) (ap callee_for c.in-Host.is) c.entered-function.ensures.next))
    (c.in_ok-entered.ensures ∙ ap (λ (t : FuncType). entry_of c.args.func (values_of t.params numbers)) (c.ty.ensures ∙ ap (λ (f : Function). callee_type (callee_for f)) c.in-Host.is))
    c.in_ok-args.args (c.in_ok-args.ensures ∙ ap (λ (ts : List ValType). values_of ts numbers) c.as_slice.ensures)
    (answer_given c.next_answer-given.result) c.next_answer-given.ensures c.in_ok-host.host c.in_ok-host.ensures)

pub returns-in_default-clause-note : goal.returns-in_default-clause-note
returns-in_default-clause-note c =
    let numbers = c.args.numbers.now in
    let f : Function = c.entered-function.result in
    subst (λ (r : Run). noted_items (record { entered = Some c.in_ok-entered.entered; host = None }) ≡ next_outside r) c.self.view_is
    (other_noted c.self.inside.module.now c.self.inside.script.now c.self.inside.made c.self.inside.stack c.self.inside.memory c.self.inside.globals c.self.inside.hosts c.self.invariant.running c.self.invariant.counted c.args.func numbers c.in_ok-entered.entered f c.in_default.not-Host
    (subst (λ (r : Run). EntersNext (instance r.module r.script) (configuration_of r) c.args.func numbers (callee_for f)) (sym c.self.view_is) c.entered-function.ensures.next)
    (c.in_ok-entered.ensures ∙ ap (λ (t : FuncType). entry_of c.args.func (values_of t.params numbers)) c.ty.ensures))
