use Rattle.std.proofs.Common.{Some, None, ap, sym, subst}
use Rattle.module_ast.specs.Structure.{code_of}
use Rattle.module_ast.specs.Validation.{declared_locals}
use Rattle.wasm_sem.specs.declared.Answer.TheVariants.{Trapped}
use Rattle.wasm_sem.specs.Execution.{own, instance}
use Rattle.run_stack.specs.Flat.{Flat}
use Rattle.wasm_run.specs.Moves.{RunsOn, EndsWith, MayWant}
use Rattle.wasm_run.specs.Reaching.{Reaches}
use Rattle.run_store.specs.Resolved.{IsSizeOf}
use Rattle.wasm_run.specs.Running.{Run, one_more, configuration_of}
use Rattle.wasm_run.proofs.Answered.{called_index, called_label}
use Rattle.wasm_run.proofs.Calling.{made_call}
use Rattle.wasm_run.proofs.Hosts.{own_hosts}
use Rattle.wasm_run.proofs.Invoking.{invoker, enough, room_back, some_label_back, undone}
use Rattle.wasm_run.proofs.Targets.{reaches_wants}
use Rattle.wasm_sem.specs.declared.Trap.{Trap}
use Rattle.wasm_run.proofs.running.Running.enter_own.Goals as goal

pub place-place-requires : goal.place-place-requires
place-place-requires c =
    called_label c.self.inside.module.now c.self.inside.script.now c.self.inside.made c.self.inside.stack c.self.inside.memory c.self.inside.globals c.self.inside.hosts c.self.invariant.running c.self.invariant.counted c.args.slot c.requires.calls.0 (code_of c.args.rest.now) (own c.args.ty.now (declared_locals c.args.body.now.groups) c.args.body.now.code)
    (subst (λ (r : Run). Reaches (instance r.module r.script) (configuration_of r) c.args.slot c.requires.calls.0 (code_of c.args.rest.now) (own c.args.ty.now (declared_locals c.args.body.now.groups) c.args.body.now.code)) (sym c.self.view_is) c.requires.calls.1)

pub step_behind-requires-clause-some : goal.step_behind-requires-clause-some
step_behind-requires-clause-some c =
    called_label c.self.inside.module.now c.self.inside.script.now c.self.inside.made c.self.inside.stack c.self.inside.memory c.self.inside.globals c.self.inside.hosts c.self.invariant.running c.self.invariant.counted c.args.slot c.requires.calls.0 (code_of c.args.rest.now) (own c.args.ty.now (declared_locals c.args.body.now.groups) c.args.body.now.code)
    (subst (λ (r : Run). Reaches (instance r.module r.script) (configuration_of r) c.args.slot c.requires.calls.0 (code_of c.args.rest.now) (own c.args.ty.now (declared_locals c.args.body.now.groups) c.args.body.now.code)) (sym c.self.view_is) c.requires.calls.1)

pub step_behind-requires-clause-index : goal.step_behind-requires-clause-index
step_behind-requires-clause-index c =
    called_index c.self.inside.module.now c.self.inside.script.now c.self.inside.made c.self.inside.stack c.self.inside.memory c.self.inside.globals c.self.inside.hosts c.self.invariant.running c.self.invariant.counted c.args.slot c.requires.calls.0 (code_of c.args.rest.now) (own c.args.ty.now (declared_locals c.args.body.now.groups) c.args.body.now.code)
    (subst (λ (r : Run). Reaches (instance r.module r.script) (configuration_of r) c.args.slot c.requires.calls.0 (code_of c.args.rest.now) (own c.args.ty.now (declared_locals c.args.body.now.groups) c.args.body.now.code)) (sym c.self.view_is) c.requires.calls.1)

pub call_own-requires-clause-params : goal.call_own-requires-clause-params
call_own-requires-clause-params c =
    enough c.self.inside.module.now c.self.inside.script.now c.self.inside.made c.self.inside.stack c.self.inside.memory c.self.inside.globals c.self.invariant.running.linked c.args.slot c.requires.calls.0 (code_of c.args.rest.now) (own c.args.ty.now (declared_locals c.args.body.now.groups) c.args.body.now.code)
    (invoker c.self.inside.module.now c.self.inside.script.now c.self.inside.made c.self.inside.stack c.self.inside.memory c.self.inside.globals c.self.invariant.running.linked c.args.slot c.requires.calls.0 (code_of c.args.rest.now) (own c.args.ty.now (declared_locals c.args.body.now.groups) c.args.body.now.code) c.self.invariant.running.keeps
    (subst (λ (r : Run). Reaches (instance r.module r.script) (configuration_of r) c.args.slot c.requires.calls.0 (code_of c.args.rest.now) (own c.args.ty.now (declared_locals c.args.body.now.groups) c.args.body.now.code)) (sym c.self.view_is) c.requires.calls.1)) c.step_behind.new.self c.step_behind.ensures

pub step_back-requires-clause-some : goal.step_back-requires-clause-some
step_back-requires-clause-some c =
    some_label_back c.self.inside.module.now c.self.inside.script.now c.self.inside.made c.self.inside.stack c.self.inside.memory c.self.inside.globals c.self.invariant.running.linked c.args.slot c.requires.calls.0 (code_of c.args.rest.now) (own c.args.ty.now (declared_locals c.args.body.now.groups) c.args.body.now.code)
    (invoker c.self.inside.module.now c.self.inside.script.now c.self.inside.made c.self.inside.stack c.self.inside.memory c.self.inside.globals c.self.invariant.running.linked c.args.slot c.requires.calls.0 (code_of c.args.rest.now) (own c.args.ty.now (declared_locals c.args.body.now.groups) c.args.body.now.code) c.self.invariant.running.keeps
    (subst (λ (r : Run). Reaches (instance r.module r.script) (configuration_of r) c.args.slot c.requires.calls.0 (code_of c.args.rest.now) (own c.args.ty.now (declared_locals c.args.body.now.groups) c.args.body.now.code)) (sym c.self.view_is) c.requires.calls.1)) c.step_behind.new.self c.step_behind.ensures c.call_own.new.stack c.in-Err.ensures.err

pub step_back-requires-clause-room : goal.step_back-requires-clause-room
step_back-requires-clause-room c =
    room_back c.self.inside.module.now c.self.inside.script.now c.self.inside.made c.self.inside.stack c.self.inside.memory c.self.inside.globals c.self.invariant.running.linked c.args.slot c.requires.calls.0 (code_of c.args.rest.now) (own c.args.ty.now (declared_locals c.args.body.now.groups) c.args.body.now.code)
    (invoker c.self.inside.module.now c.self.inside.script.now c.self.inside.made c.self.inside.stack c.self.inside.memory c.self.inside.globals c.self.invariant.running.linked c.args.slot c.requires.calls.0 (code_of c.args.rest.now) (own c.args.ty.now (declared_locals c.args.body.now.groups) c.args.body.now.code) c.self.invariant.running.keeps
    (subst (λ (r : Run). Reaches (instance r.module r.script) (configuration_of r) c.args.slot c.requires.calls.0 (code_of c.args.rest.now) (own c.args.ty.now (declared_locals c.args.body.now.groups) c.args.body.now.code)) (sym c.self.view_is) c.requires.calls.1)) c.step_behind.new.self c.step_behind.ensures c.call_own.new.stack c.in-Err.ensures.err

pub invariant_of-self : goal.invariant_of-self
invariant_of-self c =
    let counted = own_hosts c.self.inside.module.now c.self.inside.script.now c.self.inside.made c.self.inside.hosts c.self.invariant.running.linked c.self.invariant.counted c.self.inside.stack c.self.inside.memory c.self.inside.globals c.args.slot c.requires.calls.0 (code_of c.args.rest.now) c.args.ty.now (declared_locals c.args.body.now.groups) c.args.body.now.code
    (invoker c.self.inside.module.now c.self.inside.script.now c.self.inside.made c.self.inside.stack c.self.inside.memory c.self.inside.globals c.self.invariant.running.linked c.args.slot c.requires.calls.0 (code_of c.args.rest.now) (own c.args.ty.now (declared_locals c.args.body.now.groups) c.args.body.now.code) c.self.invariant.running.keeps
    (subst (λ (r : Run). Reaches (instance r.module r.script) (configuration_of r) c.args.slot c.requires.calls.0 (code_of c.args.rest.now) (own c.args.ty.now (declared_locals c.args.body.now.groups) c.args.body.now.code)) (sym c.self.view_is) c.requires.calls.1)) in
    record {
      running = (made_call c.self.inside.module.now c.self.inside.script.now c.self.inside.made c.self.inside.stack c.self.inside.memory c.self.inside.globals c.self.invariant.running.linked c.args.slot c.requires.calls.0 (code_of c.args.rest.now) c.args.ty.now c.args.body.now
          (invoker c.self.inside.module.now c.self.inside.script.now c.self.inside.made c.self.inside.stack c.self.inside.memory c.self.inside.globals c.self.invariant.running.linked c.args.slot c.requires.calls.0 (code_of c.args.rest.now) (own c.args.ty.now (declared_locals c.args.body.now.groups) c.args.body.now.code) c.self.invariant.running.keeps
          (subst (λ (r : Run). Reaches (instance r.module r.script) (configuration_of r) c.args.slot c.requires.calls.0 (code_of c.args.rest.now) (own c.args.ty.now (declared_locals c.args.body.now.groups) c.args.body.now.code)) (sym c.self.view_is) c.requires.calls.1)) c.step_behind.new.self c.step_behind.ensures
          c.args.size.locals c.args.size.height c.args.size.nesting c.call_own.new.stack
          (subst (λ (r : Run). IsSizeOf r.module c.args.ty.now c.args.body.now c.args.size.locals c.args.size.height c.args.size.nesting) (sym c.self.view_is) c.requires.size) c.in-Ok-None.field-0 None c.in-Ok-None.field-0-is c.in-Ok-None.ensures.enters c.in-Ok-None.ensures.ok).0;
      counted = counted;
      functions_are = c.self.invariant.functions_are;
      table_is = c.self.invariant.table_is;
    }

pub invariant_of-self-in-Ok-Some : goal.invariant_of-self-in-Ok-Some
invariant_of-self-in-Ok-Some c =
    let counted = own_hosts c.self.inside.module.now c.self.inside.script.now c.self.inside.made c.self.inside.hosts c.self.invariant.running.linked c.self.invariant.counted c.self.inside.stack c.self.inside.memory c.self.inside.globals c.args.slot c.requires.calls.0 (code_of c.args.rest.now) c.args.ty.now (declared_locals c.args.body.now.groups) c.args.body.now.code
    (invoker c.self.inside.module.now c.self.inside.script.now c.self.inside.made c.self.inside.stack c.self.inside.memory c.self.inside.globals c.self.invariant.running.linked c.args.slot c.requires.calls.0 (code_of c.args.rest.now) (own c.args.ty.now (declared_locals c.args.body.now.groups) c.args.body.now.code) c.self.invariant.running.keeps
    (subst (λ (r : Run). Reaches (instance r.module r.script) (configuration_of r) c.args.slot c.requires.calls.0 (code_of c.args.rest.now) (own c.args.ty.now (declared_locals c.args.body.now.groups) c.args.body.now.code)) (sym c.self.view_is) c.requires.calls.1)) in
    record {
      running = (made_call c.self.inside.module.now c.self.inside.script.now c.self.inside.made c.self.inside.stack c.self.inside.memory c.self.inside.globals c.self.invariant.running.linked c.args.slot c.requires.calls.0 (code_of c.args.rest.now) c.args.ty.now c.args.body.now
          (invoker c.self.inside.module.now c.self.inside.script.now c.self.inside.made c.self.inside.stack c.self.inside.memory c.self.inside.globals c.self.invariant.running.linked c.args.slot c.requires.calls.0 (code_of c.args.rest.now) (own c.args.ty.now (declared_locals c.args.body.now.groups) c.args.body.now.code) c.self.invariant.running.keeps
          (subst (λ (r : Run). Reaches (instance r.module r.script) (configuration_of r) c.args.slot c.requires.calls.0 (code_of c.args.rest.now) (own c.args.ty.now (declared_locals c.args.body.now.groups) c.args.body.now.code)) (sym c.self.view_is) c.requires.calls.1)) c.step_behind.new.self c.step_behind.ensures
          c.args.size.locals c.args.size.height c.args.size.nesting c.call_own.new.stack
          (subst (λ (r : Run). IsSizeOf r.module c.args.ty.now c.args.body.now c.args.size.locals c.args.size.height c.args.size.nesting) (sym c.self.view_is) c.requires.size) c.in-Ok-Some.field-0 (Some c.in-Ok-Some.trap) c.in-Ok-Some.field-0-is c.in-Ok-Some.ensures.enters c.in-Ok-Some.ensures.ok).0 c.clear.new.self (ap (λ (t : Flat). t.bases) c.clear.ensures);
      counted = counted;
      functions_are = c.self.invariant.functions_are;
      table_is = c.self.invariant.table_is;
    }

pub invariant_of-self-in-Err : goal.invariant_of-self-in-Err
invariant_of-self-in-Err c = record {
  running = undone c.self.inside.module.now c.self.inside.script.now c.self.inside.made c.self.inside.stack c.self.inside.memory c.self.inside.globals c.self.invariant.running.linked c.args.slot c.requires.calls.0 (code_of c.args.rest.now) (own c.args.ty.now (declared_locals c.args.body.now.groups) c.args.body.now.code)
      (invoker c.self.inside.module.now c.self.inside.script.now c.self.inside.made c.self.inside.stack c.self.inside.memory c.self.inside.globals c.self.invariant.running.linked c.args.slot c.requires.calls.0 (code_of c.args.rest.now) (own c.args.ty.now (declared_locals c.args.body.now.groups) c.args.body.now.code) c.self.invariant.running.keeps
      (subst (λ (r : Run). Reaches (instance r.module r.script) (configuration_of r) c.args.slot c.requires.calls.0 (code_of c.args.rest.now) (own c.args.ty.now (declared_locals c.args.body.now.groups) c.args.body.now.code)) (sym c.self.view_is) c.requires.calls.1)) c.step_behind.new.self c.step_behind.ensures
      c.call_own.new.stack c.step_back.new.self (code_of c.place-place.result.now) c.place-place.ensures c.in-Err.ensures.err c.step_back.ensures;
  counted = c.self.invariant.counted;
  functions_are = c.self.invariant.functions_are;
  table_is = c.self.invariant.table_is;
}

pub returns-in-Ok-None : goal.returns-in-Ok-None
returns-in-Ok-None c = (
  ap one_more c.self.view_is,
  subst (λ (r : Run). RunsOn (configuration_of r) (configuration_of (one_more r))) c.self.view_is
      (made_call c.self.inside.module.now c.self.inside.script.now c.self.inside.made c.self.inside.stack c.self.inside.memory c.self.inside.globals c.self.invariant.running.linked c.args.slot c.requires.calls.0 (code_of c.args.rest.now) c.args.ty.now c.args.body.now
      (invoker c.self.inside.module.now c.self.inside.script.now c.self.inside.made c.self.inside.stack c.self.inside.memory c.self.inside.globals c.self.invariant.running.linked c.args.slot c.requires.calls.0 (code_of c.args.rest.now) (own c.args.ty.now (declared_locals c.args.body.now.groups) c.args.body.now.code) c.self.invariant.running.keeps
      (subst (λ (r : Run). Reaches (instance r.module r.script) (configuration_of r) c.args.slot c.requires.calls.0 (code_of c.args.rest.now) (own c.args.ty.now (declared_locals c.args.body.now.groups) c.args.body.now.code)) (sym c.self.view_is) c.requires.calls.1)) c.step_behind.new.self c.step_behind.ensures
      c.args.size.locals c.args.size.height c.args.size.nesting c.call_own.new.stack
      (subst (λ (r : Run). IsSizeOf r.module c.args.ty.now c.args.body.now c.args.size.locals c.args.size.height c.args.size.nesting) (sym c.self.view_is) c.requires.size) c.in-Ok-None.field-0 None c.in-Ok-None.field-0-is c.in-Ok-None.ensures.enters c.in-Ok-None.ensures.ok).1,
)

pub returns-in-Ok-Some : goal.returns-in-Ok-Some
returns-in-Ok-Some c = (
  ap one_more c.self.view_is,
  subst (λ (t : Trap). EndsWith (instance c.args.self.now.module c.args.self.now.script) (Trapped t) (configuration_of c.args.self.now) (configuration_of (one_more c.args.self.now))) (sym c.in-Ok-Some.trap-is)
      (subst (λ (r : Run). EndsWith (instance r.module r.script) (Trapped c.in-Ok-Some.trap) (configuration_of r) (configuration_of (one_more r))) c.self.view_is
      (made_call c.self.inside.module.now c.self.inside.script.now c.self.inside.made c.self.inside.stack c.self.inside.memory c.self.inside.globals c.self.invariant.running.linked c.args.slot c.requires.calls.0 (code_of c.args.rest.now) c.args.ty.now c.args.body.now
      (invoker c.self.inside.module.now c.self.inside.script.now c.self.inside.made c.self.inside.stack c.self.inside.memory c.self.inside.globals c.self.invariant.running.linked c.args.slot c.requires.calls.0 (code_of c.args.rest.now) (own c.args.ty.now (declared_locals c.args.body.now.groups) c.args.body.now.code) c.self.invariant.running.keeps
      (subst (λ (r : Run). Reaches (instance r.module r.script) (configuration_of r) c.args.slot c.requires.calls.0 (code_of c.args.rest.now) (own c.args.ty.now (declared_locals c.args.body.now.groups) c.args.body.now.code)) (sym c.self.view_is) c.requires.calls.1)) c.step_behind.new.self c.step_behind.ensures
      c.args.size.locals c.args.size.height c.args.size.nesting c.call_own.new.stack
      (subst (λ (r : Run). IsSizeOf r.module c.args.ty.now c.args.body.now c.args.size.locals c.args.size.height c.args.size.nesting) (sym c.self.view_is) c.requires.size) c.in-Ok-Some.field-0 (Some c.in-Ok-Some.trap) c.in-Ok-Some.field-0-is c.in-Ok-Some.ensures.enters c.in-Ok-Some.ensures.ok).1),
)

pub returns-in-Err : goal.returns-in-Err
returns-in-Err c = (
  c.self.view_is,
  subst (λ (r : Run). MayWant (configuration_of r)) c.self.view_is
      (reaches_wants (instance c.self.inside.module.now c.self.inside.script.now) (configuration_of (record { «module» = c.self.inside.module.now; script = c.self.inside.script.now; made = c.self.inside.made })) c.args.slot c.requires.calls.0 (code_of c.args.rest.now) (own c.args.ty.now (declared_locals c.args.body.now.groups) c.args.body.now.code)
      (subst (λ (r : Run). Reaches (instance r.module r.script) (configuration_of r) c.args.slot c.requires.calls.0 (code_of c.args.rest.now) (own c.args.ty.now (declared_locals c.args.body.now.groups) c.args.body.now.code)) (sym c.self.view_is) c.requires.calls.1)),
)
