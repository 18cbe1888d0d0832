use Rattle.std.proofs.Common.{◌≡◌, ap, sym, subst}
use Rattle.wasm_sem.specs.Execution.{instance, step, traps}
use Rattle.wasm_sem.specs.declared.Answer.TheVariants.{Trapped}
use Rattle.run_stack.specs.Flat.{Flat}
use Rattle.wasm_run.specs.Moves.{EndsWith}
use Rattle.wasm_run.specs.Running.{Run, one_more, configuration_of}
use Rattle.wasm_run.proofs.Hosts.{trap_hosts}
use Rattle.wasm_run.proofs.Moments.{trap_ends, trap_running}
use Rattle.wasm_run.proofs.Rooms.{next_state}
use Rattle.wasm_run.proofs.running.Running.trap.Goals as goal

pub invariant_of-self : goal.invariant_of-self
invariant_of-self c =
    let trapped = subst (λ (r : Run). step (instance r.module r.script) (configuration_of r) ≡ traps c.args.trap) (sym c.self.view_is) c.requires.traps in
    let counted = trap_hosts c.self.inside.module.now c.self.inside.script.now c.self.inside.made c.self.inside.hosts c.self.invariant.running.linked c.self.invariant.counted c.args.trap trapped in
    record {
      running = trap_running c.self.inside.module.now c.self.inside.script.now c.self.inside.made c.self.inside.stack c.self.inside.memory c.self.inside.globals c.self.invariant.running c.args.trap trapped c.clear.new.self (ap (λ (t : Flat). t.bases) c.clear.ensures);
      counted = counted;
      functions_are = c.self.invariant.functions_are;
      table_is = c.self.invariant.table_is;
    }

pub returns : goal.returns
returns c =
    let l = c.self.invariant.running.linked in
    let at : Run = record { «module» = c.self.inside.module.now; script = c.self.inside.script.now; made = c.self.inside.made } in
    let trapped = subst (λ (r : Run). step (instance r.module r.script) (configuration_of r) ≡ traps c.args.trap) (sym c.self.view_is) c.requires.traps in (
      ap one_more c.self.view_is,
      subst (λ (r : Run). EndsWith (instance r.module r.script) (Trapped c.args.trap) (configuration_of r) (configuration_of (one_more r))) c.self.view_is
          (subst (EndsWith (instance at.module at.script) (Trapped c.args.trap) (configuration_of at)) (sym (next_state at.module at.script l.valid l.complete l.range l.links at.made (configuration_of at) (λ i. configuration_of at)))
          (trap_ends (instance at.module at.script) (configuration_of at) c.args.trap trapped)),
    )
