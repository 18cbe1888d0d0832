use Rattle.std.proofs.Common.{◌+◌, ◌≤◌, length, Some, refl, sym, ap, subst}
use Rattle.wasm_sem.specs.declared.Answer.TheVariants.{Returned}
use Rattle.wasm_sem.specs.Execution.{instance}
use Rattle.run_stack.specs.Below.{IsBelow}
use Rattle.run_stack.specs.Flat.{Flat}
use Rattle.run_stack.specs.Leaving.{LeavesLast}
use Rattle.wasm_run.specs.Moves.{MayWant, EndsWith}
use Rattle.wasm_run.specs.Running.{Run, one_more, configuration_of}
use Rattle.wasm_run.proofs.Hosts.{inside_hosts}
use Rattle.wasm_run.proofs.Moments.{has_many}
use Rattle.wasm_run.proofs.Progressing.{steps_wanting}
use Rattle.wasm_run.proofs.running.Running.leave_last.Goals as goal

pub lowest_arity-count-requires : goal.lowest_arity-count-requires
lowest_arity-count-requires c = (has_many c.self.inside.module.now c.self.inside.script.now c.self.inside.made c.self.inside.stack c.self.inside.memory c.self.inside.globals c.self.invariant.running c.args.above (subst (λ (r : Run). LeavesLast c.args.above (configuration_of r)) (sym c.self.view_is) c.requires.leaves)).label

pub values_below-requires : goal.values_below-requires
values_below-requires c = subst (λ n. c.args.above + n ≤ length c.self.inside.stack.values) (sym c.lowest_arity-count.ensures) (has_many c.self.inside.module.now c.self.inside.script.now c.self.inside.made c.self.inside.stack c.self.inside.memory c.self.inside.globals c.self.invariant.running c.args.above (subst (λ (r : Run). LeavesLast c.args.above (configuration_of r)) (sym c.self.view_is) c.requires.leaves)).enough

pub returns-in_err-results : goal.returns-in_err-results
returns-in_err-results c =
    steps_wanting c.args.calls c.from_residual.result c.args.self.now c.args.self.now c.args.told.now c.from_residual.ensures.0 refl (subst (λ (r : Run). MayWant (configuration_of r)) c.self.view_is (has_many c.self.inside.module.now c.self.inside.script.now c.self.inside.made c.self.inside.stack c.self.inside.memory c.self.inside.globals c.self.invariant.running c.args.above (subst (λ (r : Run). LeavesLast c.args.above (configuration_of r)) (sym c.self.view_is) c.requires.leaves)).wants)

pub invariant_of-self : goal.invariant_of-self
invariant_of-self c =
    let m = (has_many c.self.inside.module.now c.self.inside.script.now c.self.inside.made c.self.inside.stack c.self.inside.memory c.self.inside.globals c.self.invariant.running c.args.above (subst (λ (r : Run). LeavesLast c.args.above (configuration_of r)) (sym c.self.view_is) c.requires.leaves)) in
    let is_below = subst (λ n. IsBelow c.args.above n c.in_ok-results.results c.self.inside.stack.values) c.lowest_arity-count.ensures c.in_ok-results.ensures.ok in
    let counted = inside_hosts c.self.inside.module.now c.self.inside.script.now c.self.inside.made c.self.inside.hosts c.self.invariant.running.linked c.self.invariant.counted c.self.inside.stack c.self.inside.memory c.self.inside.globals c.self.invariant.running m.inside m.no_call in
    record {
      running = m.running_on c.in_ok-results.results is_below c.clear.new.self (ap (λ (t : Flat). t.bases) c.clear.ensures);
      counted = counted;
      functions_are = c.self.invariant.functions_are;
      table_is = c.self.invariant.table_is;
    }

pub returns : goal.returns
returns c =
    let m = (has_many c.self.inside.module.now c.self.inside.script.now c.self.inside.made c.self.inside.stack c.self.inside.memory c.self.inside.globals c.self.invariant.running c.args.above (subst (λ (r : Run). LeavesLast c.args.above (configuration_of r)) (sym c.self.view_is) c.requires.leaves)) in
    let is_below = subst (λ n. IsBelow c.args.above n c.in_ok-results.results c.self.inside.stack.values) c.lowest_arity-count.ensures c.in_ok-results.ensures.ok in (
      Some (Returned c.in_ok-results.results),
      (
        ap one_more c.self.view_is,
        subst (λ (r : Run). EndsWith (instance r.module r.script) (Returned c.in_ok-results.results) (configuration_of r) (configuration_of (one_more r))) c.self.view_is (m.ends_with c.in_ok-results.results is_below),
      ),
      c.end.ensures,
    )
