use Rattle.std.proofs.Common.{◌∙◌, ap, sym, subst}
use Rattle.wasm_sem.specs.declared.Answer.TheVariants.{Returned}
use Rattle.wasm_sem.specs.Execution.{hook, instance, values_of}
use Rattle.wasm_sem.specs.Types.{ValType}
use Rattle.std.specs.Prelude.{List, []}
use Rattle.wasm_run.specs.Entries.{EntersNext}
use Rattle.wasm_run.specs.Moves.{EndsWith}
use Rattle.wasm_run.specs.Running.{Run, one_more, configuration_of}
use Rattle.wasm_run.proofs.Entered.{hook_ends, hook_running, hook_counted}
use Rattle.wasm_run.proofs.running.Running.enter_hook.Goals as goal

pub invariant_of-self : goal.invariant_of-self
invariant_of-self c = record {
  running = hook_running c.self.inside.module.now c.self.inside.script.now c.self.inside.made c.self.inside.stack c.self.inside.memory c.self.inside.globals c.self.inside.hosts c.self.invariant.running c.self.invariant.counted c.requires.next.0 c.requires.next.1 c.args.ty.now (subst (λ (r : Run). EntersNext (instance r.module r.script) (configuration_of r) c.requires.next.0 c.requires.next.1 (hook c.args.ty.now)) (sym c.self.view_is) c.requires.next.2);
  counted = hook_counted c.self.inside.module.now c.self.inside.script.now c.self.inside.made c.self.inside.stack c.self.inside.memory c.self.inside.globals c.self.inside.hosts c.self.invariant.running c.self.invariant.counted c.requires.next.0 c.requires.next.1 c.args.ty.now (subst (λ (r : Run). EntersNext (instance r.module r.script) (configuration_of r) c.requires.next.0 c.requires.next.1 (hook c.args.ty.now)) (sym c.self.view_is) c.requires.next.2);
  functions_are = c.self.invariant.functions_are;
  table_is = c.self.invariant.table_is;
}

pub returns : goal.returns
returns c = (
  ap one_more c.self.view_is,
  subst (λ (r : Run). EndsWith (instance r.module r.script) (Returned c.in_ok-results.results) (configuration_of r) (configuration_of (one_more r))) c.self.view_is
      (hook_ends c.self.inside.module.now c.self.inside.script.now c.self.inside.made c.self.inside.stack c.self.inside.memory c.self.inside.globals c.self.inside.hosts c.self.invariant.running c.self.invariant.counted c.requires.next.0 c.requires.next.1 c.args.ty.now (subst (λ (r : Run). EntersNext (instance r.module r.script) (configuration_of r) c.requires.next.0 c.requires.next.1 (hook c.args.ty.now)) (sym c.self.view_is) c.requires.next.2) c.in_ok-results.results (c.in_ok-results.ensures ∙ ap (λ (ts : List ValType). values_of ts []) c.as_slice.ensures)),
)
