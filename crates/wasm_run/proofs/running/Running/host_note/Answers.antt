use Rattle.std.proofs.Common.{◌≡◌, ◌+◌, ◌≤◌, List, [], ◌∷◌, length, Some, Ok, Err, Result, sym, subst}
use Rattle.std.specs.Prelude.{IfOk}
use Rattle.std.specs.declared.alloc.AllocError.{AllocError}
use Rattle.wasm_sem.specs.Types.{ValType}
use Rattle.wasm_sem.specs.Execution.{host_call, host, instance, values_of, writes_done}
use Rattle.wasm_run.specs.declared.note.HostNote.{HostNote}
use Rattle.wasm_run.specs.Answering.{answer_given}
use Rattle.run_stack.specs.Below.{IsBelow}
use Rattle.wasm_run.specs.Noting.{host_items, next_outside}
use Rattle.module_ast.specs.Structure.{code_of}
use Rattle.wasm_run.specs.declared.functions.HostCall.{HostCall}
use Rattle.wasm_run.specs.Moves.{MayWant}
use Rattle.wasm_run.specs.Reaching.{IsHostCall}
use Rattle.wasm_run.specs.Running.{Run, configuration_of}
use Rattle.wasm_run.proofs.Hooks.{on_err, words_there}
use Rattle.wasm_run.proofs.Noting.{called_note}
use Rattle.wasm_run.proofs.Targets.{reaches_wants}
use Rattle.wasm_run.proofs.running.Running.host_note.Goals as goal

pub values_below-requires : goal.values_below-requires
values_below-requires c =
    subst (λ (ts : List ValType). c.index_count.result + length ts ≤ length c.self.inside.stack.values) (sym c.as_slice-count.ensures)
    (words_there c.self.inside.module.now c.self.inside.script.now c.self.inside.made c.self.inside.stack c.self.inside.memory c.self.inside.globals c.self.invariant.running c.args.call.slot c.args.call.func (code_of c.args.call.rest.now) (host c.args.call.ty.now)
    (subst (IsHostCall c.args.call) (sym c.self.view_is) c.requires) c.index_count.result c.index_count.ensures)

if_noted : (r : Result HostNote AllocError) (P Q : HostNote → Type 0) → ((n : HostNote) → P n → Q n) → IfOk r P → IfOk r Q
if_noted (Ok n) P Q h p = h n p
if_noted (Err e) P Q h p = tt

pub returns-clause-note : goal.returns-clause-note
returns-clause-note c =
    let a = answer_given c.next_answer-given.result in
    if_noted c.host_note.result
    (λ n. host_items (Some n) ≡ host_call c.args.call.func c.in_ok-args.args (values_of c.args.call.ty.now.results a.results) (writes_done c.self.inside.memory.bytes a.writes) ∷ [])
    (λ n. host_items (Some n) ≡ next_outside c.args.self.now)
    (λ n h.
    subst (λ (r : Run). host_items (Some n) ≡ next_outside r) c.self.view_is
    (called_note c.self.inside.module.now c.self.inside.script.now c.self.inside.made c.self.inside.stack c.self.inside.memory c.self.inside.globals c.self.inside.hosts c.self.invariant.running c.self.invariant.counted c.args.call.slot c.args.call.func (code_of c.args.call.rest.now) c.args.call.ty.now
    (subst (IsHostCall c.args.call) (sym c.self.view_is) c.requires) c.index_count.result c.index_count.ensures c.in_ok-args.args
    (subst (λ (ts : List ValType). IsBelow c.index_count.result (length ts) c.in_ok-args.args c.self.inside.stack.values) c.as_slice-count.ensures c.in_ok-args.ensures.ok) a
    c.next_answer-given.ensures n h)) c.host_note.ensures

wants : (h : HostCall) (r : Run) → IsHostCall h r → MayWant (configuration_of r)
wants h r calls = reaches_wants (instance r.module r.script) (configuration_of r) h.slot h.func (code_of h.rest.now) (host h.ty.now) calls

pub returns-clause-err : goal.returns-clause-err
returns-clause-err c = on_err c.host_note.result (wants c.args.call c.args.self.now c.requires)

pub returns-in_err-args-clause-err : goal.returns-in_err-args-clause-err
returns-in_err-args-clause-err c = on_err c.from_residual.result (wants c.args.call c.args.self.now c.requires)
