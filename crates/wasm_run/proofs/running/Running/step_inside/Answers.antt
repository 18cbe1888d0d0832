use Rattle.std.proofs.Common.{◌+◌, ◌<◌, ◌∙◌, Some, None, Ok, Err, sym, ap, subst, arith}
use Rattle.wasm_sem.specs.declared.Answer.TheVariants.{Trapped}
use Rattle.wasm_sem.specs.Execution.{instance}
use Rattle.run_stack.specs.Advances.{IsAtGrow, GoesAtNoCall}
use Rattle.run_stack.specs.Flat.{Flat, first_rest}
use Rattle.run_stack.specs.Leaving.{LeavesLast}
use Rattle.wasm_run.specs.Moves.{MovesBy, EndsWith}
use Rattle.wasm_run.specs.Running.{Run, one_more, configuration_of, IsInside, Innermost}
use Rattle.run_stack.specs.declared.steps.Did.{Did}
use Rattle.wasm_run.proofs.Hosts.{inside_hosts, trap_hosts}
use Rattle.wasm_run.proofs.Moments.{standing, readable, leaves_last, Leaves, leaves, went_moves, left_few, trap_ends, wants_at_grow, no_bases}
use Rattle.wasm_run.proofs.Rooms.{next_state}
use Rattle.wasm_run.proofs.Progressing.{follows_none, steps_wanting}
use Rattle.wasm_run.proofs.running.Running.step_inside.Goals as goal

pub above_many-requires-clause-some : goal.above_many-requires-clause-some
above_many-requires-clause-some c = (readable c.self.inside.module.now c.self.inside.script.now c.self.inside.made c.self.inside.stack c.self.inside.memory c.self.inside.globals c.self.invariant.running (subst (λ (r : Run). IsInside (configuration_of r)) (sym c.self.view_is) c.requires.inside)).some

pub above_many-requires-clause-own : goal.above_many-requires-clause-own
above_many-requires-clause-own c = (readable c.self.inside.module.now c.self.inside.script.now c.self.inside.made c.self.inside.stack c.self.inside.memory c.self.inside.globals c.self.invariant.running (subst (λ (r : Run). IsInside (configuration_of r)) (sym c.self.view_is) c.requires.inside)).own

pub above_many-requires-clause-number : goal.above_many-requires-clause-number
above_many-requires-clause-number c = (readable c.self.inside.module.now c.self.inside.script.now c.self.inside.made c.self.inside.stack c.self.inside.memory c.self.inside.globals c.self.invariant.running (subst (λ (r : Run). IsInside (configuration_of r)) (sym c.self.view_is) c.requires.inside)).number

pub leave_last-requires-clause-leaves : goal.leave_last-requires-clause-leaves
leave_last-requires-clause-leaves c =
    subst (λ (r : Run). LeavesLast c.in-Some.above (configuration_of r)) c.self.view_is (leaves_last c.self.inside.module.now c.self.inside.script.now c.self.inside.made c.self.inside.stack c.self.inside.memory c.self.inside.globals c.self.invariant.running (subst (λ (r : Run). IsInside (configuration_of r)) (sym c.self.view_is) c.requires.inside) c.in-Some.above c.in-Some.ensures)

pub advance-requires : goal.advance-requires
advance-requires c = standing c.self.inside.module.now c.self.inside.script.now c.self.inside.made c.self.inside.stack c.self.inside.memory c.self.inside.globals c.self.invariant.running (subst (λ (r : Run). IsInside (configuration_of r)) (sym c.self.view_is) c.requires.inside)

pub returns-in_err-advance : goal.returns-in_err-advance
returns-in_err-advance c =
    steps_wanting c.args.calls c.from_residual.result c.args.self.now _ c.args.told.now c.from_residual.ensures.0 c.self.view_is
    (wants_at_grow (configuration_of c.args.self.now) (subst (λ (r : Run). Innermost IsAtGrow (configuration_of r)) c.self.view_is
    (leaves c.self.inside.module.now c.self.inside.script.now c.self.inside.made c.self.inside.stack c.self.inside.memory c.self.inside.globals c.self.invariant.running c.advance.new.stack c.advance.new.memory c.advance.new.globals c.in_err-advance.ensures.value_room c.in_err-advance.ensures.spot_room (Err c.in_err-advance.field-0.0)
    (subst (λ (r : Run). IsInside (configuration_of r)) (sym c.self.view_is) c.requires.inside) c.in_err-advance.ensures.calls c.in_err-advance.ensures.advances).1))

pub invariant_of-self : goal.invariant_of-self
invariant_of-self c = record {
  running = (leaves c.self.inside.module.now c.self.inside.script.now c.self.inside.made c.self.inside.stack c.self.inside.memory c.self.inside.globals c.self.invariant.running c.advance.new.stack c.advance.new.memory c.advance.new.globals c.in_err-advance.ensures.value_room c.in_err-advance.ensures.spot_room (Err c.in_err-advance.field-0.0)
      (subst (λ (r : Run). IsInside (configuration_of r)) (sym c.self.view_is) c.requires.inside) c.in_err-advance.ensures.calls c.in_err-advance.ensures.advances).0;
  counted = c.self.invariant.counted;
  functions_are = c.self.invariant.functions_are;
  table_is = c.self.invariant.table_is;
}

pub returned-requires-clause-few : goal.returned-requires-clause-few
returned-requires-clause-few c =
    left_few c.self.inside.module.now c.self.inside.script.now c.self.inside.made (configuration_of (record { «module» = c.self.inside.module.now; script = c.self.inside.script.now; made = c.self.inside.made })) (configuration_of (record { «module» = c.self.inside.module.now; script = c.self.inside.script.now; made = c.self.inside.made + 1 })) c.self.inside.stack c.advance.new.stack c.self.inside.memory c.self.inside.globals c.self.invariant.running
    ((subst (λ (d : Did). Leaves c.self.inside.module.now c.self.inside.script.now c.self.inside.made c.self.inside.stack c.self.inside.memory c.self.inside.globals c.self.invariant.running (Ok d) (configuration_of (record { «module» = c.self.inside.module.now; script = c.self.inside.script.now; made = c.self.inside.made })) c.advance.new.stack c.advance.new.memory c.advance.new.globals) c.in-Went.is
    (leaves c.self.inside.module.now c.self.inside.script.now c.self.inside.made c.self.inside.stack c.self.inside.memory c.self.inside.globals c.self.invariant.running c.advance.new.stack c.advance.new.memory c.advance.new.globals c.in_ok-advance.ensures.value_room c.in_ok-advance.ensures.spot_room (Ok c.in_ok-advance.field-0)
    (subst (λ (r : Run). IsInside (configuration_of r)) (sym c.self.view_is) c.requires.inside) c.in_ok-advance.ensures.calls c.in_ok-advance.ensures.advances))).1
    c.in_default.ensures
    (no_bases c.advance.new.stack.bases (sym c.frames.ensures ∙ c.if-frames-eq0.true))

pub invariant_of-self-then-frames-eq0 : goal.invariant_of-self-then-frames-eq0
invariant_of-self-then-frames-eq0 c =
    let counted = inside_hosts c.self.inside.module.now c.self.inside.script.now c.self.inside.made c.self.inside.hosts c.self.invariant.running.linked c.self.invariant.counted c.self.inside.stack c.self.inside.memory c.self.inside.globals c.self.invariant.running (subst (λ (r : Run). IsInside (configuration_of r)) (sym c.self.view_is) c.requires.inside) (subst (λ (d : Did). GoesAtNoCall (Ok d) (first_rest c.self.inside.stack.spots)) c.in-Went.is c.in_ok-advance.ensures.calls) in
    record {
      running = ((subst (λ (d : Did). Leaves c.self.inside.module.now c.self.inside.script.now c.self.inside.made c.self.inside.stack c.self.inside.memory c.self.inside.globals c.self.invariant.running (Ok d) (configuration_of (record { «module» = c.self.inside.module.now; script = c.self.inside.script.now; made = c.self.inside.made })) c.advance.new.stack c.advance.new.memory c.advance.new.globals) c.in-Went.is
          (leaves c.self.inside.module.now c.self.inside.script.now c.self.inside.made c.self.inside.stack c.self.inside.memory c.self.inside.globals c.self.invariant.running c.advance.new.stack c.advance.new.memory c.advance.new.globals c.in_ok-advance.ensures.value_room c.in_ok-advance.ensures.spot_room (Ok c.in_ok-advance.field-0)
          (subst (λ (r : Run). IsInside (configuration_of r)) (sym c.self.view_is) c.requires.inside) c.in_ok-advance.ensures.calls c.in_ok-advance.ensures.advances))).0;
      counted = counted;
      functions_are = c.self.invariant.functions_are;
      table_is = c.self.invariant.table_is;
    }

pub invariant_of-self-else-frames-eq0 : goal.invariant_of-self-else-frames-eq0
invariant_of-self-else-frames-eq0 c =
    let counted = inside_hosts c.self.inside.module.now c.self.inside.script.now c.self.inside.made c.self.inside.hosts c.self.invariant.running.linked c.self.invariant.counted c.self.inside.stack c.self.inside.memory c.self.inside.globals c.self.invariant.running (subst (λ (r : Run). IsInside (configuration_of r)) (sym c.self.view_is) c.requires.inside) (subst (λ (d : Did). GoesAtNoCall (Ok d) (first_rest c.self.inside.stack.spots)) c.in-Went.is c.in_ok-advance.ensures.calls) in
    record {
      running = ((subst (λ (d : Did). Leaves c.self.inside.module.now c.self.inside.script.now c.self.inside.made c.self.inside.stack c.self.inside.memory c.self.inside.globals c.self.invariant.running (Ok d) (configuration_of (record { «module» = c.self.inside.module.now; script = c.self.inside.script.now; made = c.self.inside.made })) c.advance.new.stack c.advance.new.memory c.advance.new.globals) c.in-Went.is
          (leaves c.self.inside.module.now c.self.inside.script.now c.self.inside.made c.self.inside.stack c.self.inside.memory c.self.inside.globals c.self.invariant.running c.advance.new.stack c.advance.new.memory c.advance.new.globals c.in_ok-advance.ensures.value_room c.in_ok-advance.ensures.spot_room (Ok c.in_ok-advance.field-0)
          (subst (λ (r : Run). IsInside (configuration_of r)) (sym c.self.view_is) c.requires.inside) c.in_ok-advance.ensures.calls c.in_ok-advance.ensures.advances))).0;
      counted = counted;
      functions_are = c.self.invariant.functions_are;
      table_is = c.self.invariant.table_is;
    }

pub invariant_of-self-in-Trapped : goal.invariant_of-self-in-Trapped
invariant_of-self-in-Trapped c =
    let counted = trap_hosts c.self.inside.module.now c.self.inside.script.now c.self.inside.made c.self.inside.hosts c.self.invariant.running.linked c.self.invariant.counted c.in-Trapped.trap ((subst (λ (d : Did). Leaves c.self.inside.module.now c.self.inside.script.now c.self.inside.made c.self.inside.stack c.self.inside.memory c.self.inside.globals c.self.invariant.running (Ok d) (configuration_of (record { «module» = c.self.inside.module.now; script = c.self.inside.script.now; made = c.self.inside.made })) c.advance.new.stack c.advance.new.memory c.advance.new.globals) c.in-Trapped.is
    (leaves c.self.inside.module.now c.self.inside.script.now c.self.inside.made c.self.inside.stack c.self.inside.memory c.self.inside.globals c.self.invariant.running c.advance.new.stack c.advance.new.memory c.advance.new.globals c.in_ok-advance.ensures.value_room c.in_ok-advance.ensures.spot_room (Ok c.in_ok-advance.field-0)
    (subst (λ (r : Run). IsInside (configuration_of r)) (sym c.self.view_is) c.requires.inside) c.in_ok-advance.ensures.calls c.in_ok-advance.ensures.advances))).1 in
    record {
      running = ((subst (λ (d : Did). Leaves c.self.inside.module.now c.self.inside.script.now c.self.inside.made c.self.inside.stack c.self.inside.memory c.self.inside.globals c.self.invariant.running (Ok d) (configuration_of (record { «module» = c.self.inside.module.now; script = c.self.inside.script.now; made = c.self.inside.made })) c.advance.new.stack c.advance.new.memory c.advance.new.globals) c.in-Trapped.is
          (leaves c.self.inside.module.now c.self.inside.script.now c.self.inside.made c.self.inside.stack c.self.inside.memory c.self.inside.globals c.self.invariant.running c.advance.new.stack c.advance.new.memory c.advance.new.globals c.in_ok-advance.ensures.value_room c.in_ok-advance.ensures.spot_room (Ok c.in_ok-advance.field-0)
          (subst (λ (r : Run). IsInside (configuration_of r)) (sym c.self.view_is) c.requires.inside) c.in_ok-advance.ensures.calls c.in_ok-advance.ensures.advances))).0 c.clear.new.self (ap (λ (t : Flat). t.bases) c.clear.ensures);
      counted = counted;
      functions_are = c.self.invariant.functions_are;
      table_is = c.self.invariant.table_is;
    }

pub invariant_of-self-in-Calls : goal.invariant_of-self-in-Calls
invariant_of-self-in-Calls c = record {
  running = ((subst (λ (d : Did). Leaves c.self.inside.module.now c.self.inside.script.now c.self.inside.made c.self.inside.stack c.self.inside.memory c.self.inside.globals c.self.invariant.running (Ok d) (configuration_of (record { «module» = c.self.inside.module.now; script = c.self.inside.script.now; made = c.self.inside.made })) c.advance.new.stack c.advance.new.memory c.advance.new.globals) c.in-Calls.is
      (leaves c.self.inside.module.now c.self.inside.script.now c.self.inside.made c.self.inside.stack c.self.inside.memory c.self.inside.globals c.self.invariant.running c.advance.new.stack c.advance.new.memory c.advance.new.globals c.in_ok-advance.ensures.value_room c.in_ok-advance.ensures.spot_room (Ok c.in_ok-advance.field-0)
      (subst (λ (r : Run). IsInside (configuration_of r)) (sym c.self.view_is) c.requires.inside) c.in_ok-advance.ensures.calls c.in_ok-advance.ensures.advances))).0;
  counted = c.self.invariant.counted;
  functions_are = c.self.invariant.functions_are;
  table_is = c.self.invariant.table_is;
}

pub call-requires : goal.call-requires
call-requires c =
    let few = subst (λ (r : Run). r.made < 18446744073709551615) (sym c.self.view_is) c.requires.few in
    record {
      few = few;
      at = ((subst (λ (d : Did). Leaves c.self.inside.module.now c.self.inside.script.now c.self.inside.made c.self.inside.stack c.self.inside.memory c.self.inside.globals c.self.invariant.running (Ok d) (configuration_of (record { «module» = c.self.inside.module.now; script = c.self.inside.script.now; made = c.self.inside.made })) c.advance.new.stack c.advance.new.memory c.advance.new.globals) c.in-Calls.is
          (leaves c.self.inside.module.now c.self.inside.script.now c.self.inside.made c.self.inside.stack c.self.inside.memory c.self.inside.globals c.self.invariant.running c.advance.new.stack c.advance.new.memory c.advance.new.globals c.in_ok-advance.ensures.value_room c.in_ok-advance.ensures.spot_room (Ok c.in_ok-advance.field-0)
          (subst (λ (r : Run). IsInside (configuration_of r)) (sym c.self.view_is) c.requires.inside) c.in_ok-advance.ensures.calls c.in_ok-advance.ensures.advances))).1;
    }

pub returns-then-frames-eq0 : goal.returns-then-frames-eq0
returns-then-frames-eq0 c = (
  (Some c.returned.ensures.0),
  (
    ap one_more c.self.view_is,
    subst (λ (r : Run). MovesBy (instance r.module r.script) (Some c.returned.ensures.0) (configuration_of r) (configuration_of (one_more r))) c.self.view_is
        (went_moves c.self.inside.module.now c.self.inside.script.now c.self.inside.made (configuration_of (record { «module» = c.self.inside.module.now; script = c.self.inside.script.now; made = c.self.inside.made })) (configuration_of (record { «module» = c.self.inside.module.now; script = c.self.inside.script.now; made = c.self.inside.made + 1 })) c.self.inside.stack c.advance.new.stack c.self.inside.memory c.self.inside.globals c.self.invariant.running (Some c.returned.ensures.0) c.returned.ensures.1
        ((subst (λ (d : Did). Leaves c.self.inside.module.now c.self.inside.script.now c.self.inside.made c.self.inside.stack c.self.inside.memory c.self.inside.globals c.self.invariant.running (Ok d) (configuration_of (record { «module» = c.self.inside.module.now; script = c.self.inside.script.now; made = c.self.inside.made })) c.advance.new.stack c.advance.new.memory c.advance.new.globals) c.in-Went.is
        (leaves c.self.inside.module.now c.self.inside.script.now c.self.inside.made c.self.inside.stack c.self.inside.memory c.self.inside.globals c.self.invariant.running c.advance.new.stack c.advance.new.memory c.advance.new.globals c.in_ok-advance.ensures.value_room c.in_ok-advance.ensures.spot_room (Ok c.in_ok-advance.field-0)
        (subst (λ (r : Run). IsInside (configuration_of r)) (sym c.self.view_is) c.requires.inside) c.in_ok-advance.ensures.calls c.in_ok-advance.ensures.advances))).1),
  ),
  c.returned.ensures.2,
)

pub returns-else-frames-eq0 : goal.returns-else-frames-eq0
returns-else-frames-eq0 c = (
  None,
  (
    ap one_more c.self.view_is,
    subst (λ (r : Run). MovesBy (instance r.module r.script) None (configuration_of r) (configuration_of (one_more r))) c.self.view_is
        (went_moves c.self.inside.module.now c.self.inside.script.now c.self.inside.made (configuration_of (record { «module» = c.self.inside.module.now; script = c.self.inside.script.now; made = c.self.inside.made })) (configuration_of (record { «module» = c.self.inside.module.now; script = c.self.inside.script.now; made = c.self.inside.made + 1 })) c.self.inside.stack c.advance.new.stack c.self.inside.memory c.self.inside.globals c.self.invariant.running None (omega (arith, c.frames.ensures, c.if-frames-eq0.false))
        ((subst (λ (d : Did). Leaves c.self.inside.module.now c.self.inside.script.now c.self.inside.made c.self.inside.stack c.self.inside.memory c.self.inside.globals c.self.invariant.running (Ok d) (configuration_of (record { «module» = c.self.inside.module.now; script = c.self.inside.script.now; made = c.self.inside.made })) c.advance.new.stack c.advance.new.memory c.advance.new.globals) c.in-Went.is
        (leaves c.self.inside.module.now c.self.inside.script.now c.self.inside.made c.self.inside.stack c.self.inside.memory c.self.inside.globals c.self.invariant.running c.advance.new.stack c.advance.new.memory c.advance.new.globals c.in_ok-advance.ensures.value_room c.in_ok-advance.ensures.spot_room (Ok c.in_ok-advance.field-0)
        (subst (λ (r : Run). IsInside (configuration_of r)) (sym c.self.view_is) c.requires.inside) c.in_ok-advance.ensures.calls c.in_ok-advance.ensures.advances))).1),
  ),
  follows_none c.args.calls c.args.told.now,
)

pub returns-in-Trapped : goal.returns-in-Trapped
returns-in-Trapped c =
    let l = c.self.invariant.running.linked in
    let at : Run = record { «module» = c.self.inside.module.now; script = c.self.inside.script.now; made = c.self.inside.made } in (
      Some (Trapped c.in-Trapped.trap),
      (
        ap one_more c.self.view_is,
        subst (λ (r : Run). EndsWith (instance r.module r.script) (Trapped c.in-Trapped.trap) (configuration_of r) (configuration_of (one_more r))) c.self.view_is
            (subst (EndsWith (instance at.module at.script) (Trapped c.in-Trapped.trap) (configuration_of at)) (sym (next_state at.module at.script l.valid l.complete l.range l.links at.made (configuration_of at) (λ i. configuration_of at)))
            (trap_ends (instance at.module at.script) (configuration_of at) c.in-Trapped.trap
            ((subst (λ (d : Did). Leaves c.self.inside.module.now c.self.inside.script.now c.self.inside.made c.self.inside.stack c.self.inside.memory c.self.inside.globals c.self.invariant.running (Ok d) (configuration_of (record { «module» = c.self.inside.module.now; script = c.self.inside.script.now; made = c.self.inside.made })) c.advance.new.stack c.advance.new.memory c.advance.new.globals) c.in-Trapped.is
            (leaves c.self.inside.module.now c.self.inside.script.now c.self.inside.made c.self.inside.stack c.self.inside.memory c.self.inside.globals c.self.invariant.running c.advance.new.stack c.advance.new.memory c.advance.new.globals c.in_ok-advance.ensures.value_room c.in_ok-advance.ensures.spot_room (Ok c.in_ok-advance.field-0)
            (subst (λ (r : Run). IsInside (configuration_of r)) (sym c.self.view_is) c.requires.inside) c.in_ok-advance.ensures.calls c.in_ok-advance.ensures.advances))).1)),
      ),
      c.trapped.ensures,
    )
