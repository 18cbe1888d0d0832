use Rattle.std.proofs.Common.{ap, sym, subst}
use Rattle.wasm_sem.specs.Execution.{own, instance}
use Rattle.module_ast.specs.Validation.{declared_locals}
use Rattle.wasm_run.specs.Entries.{EntersNext}
use Rattle.wasm_run.specs.Moves.{RunsOn}
use Rattle.run_store.specs.Resolved.{IsSizeOf}
use Rattle.wasm_run.specs.Running.{Run, one_more, configuration_of}
use Rattle.wasm_run.proofs.Entered.{first_on, first_counted, first_running, unentered}
use Rattle.wasm_run.proofs.running.Running.enter_first.Goals as goal

pub invariant_of-self : goal.invariant_of-self
invariant_of-self c = record {
  running = unentered c.self.inside.module.now c.self.inside.script.now c.self.inside.made c.self.inside.stack c.self.inside.memory c.self.inside.globals c.self.inside.hosts c.self.invariant.running c.self.invariant.counted c.requires.next.0 c.args.numbers.now (own c.args.ty.now (declared_locals c.args.body.now.groups) c.args.body.now.code) (subst (λ (r : Run). EntersNext (instance r.module r.script) (configuration_of r) c.requires.next.0 c.args.numbers.now (own c.args.ty.now (declared_locals c.args.body.now.groups) c.args.body.now.code)) (sym c.self.view_is) c.requires.next.1) c.enter_alone.new.stack c.in_err-enter_alone.ensures.err;
  counted = c.self.invariant.counted;
  functions_are = c.self.invariant.functions_are;
  table_is = c.self.invariant.table_is;
}

pub invariant_of-self-2 : goal.invariant_of-self-2
invariant_of-self-2 c = record {
  running = first_running c.self.inside.module.now c.self.inside.script.now c.self.inside.made c.self.inside.stack c.self.inside.memory c.self.inside.globals c.self.inside.hosts c.self.invariant.running c.self.invariant.counted c.requires.next.0 c.args.numbers.now c.args.ty.now c.args.body.now (subst (λ (r : Run). EntersNext (instance r.module r.script) (configuration_of r) c.requires.next.0 c.args.numbers.now (own c.args.ty.now (declared_locals c.args.body.now.groups) c.args.body.now.code)) (sym c.self.view_is) c.requires.next.1) c.args.size.height c.args.size.nesting c.enter_alone.new.stack c.args.size.locals
      (subst (λ (r : Run). IsSizeOf r.module c.args.ty.now c.args.body.now c.args.size.locals c.args.size.height c.args.size.nesting) (sym c.self.view_is) c.requires.size) c.in_ok-enter_alone.ensures.ok;
  counted = first_counted c.self.inside.module.now c.self.inside.script.now c.self.inside.made c.self.inside.stack c.self.inside.memory c.self.inside.globals c.self.inside.hosts c.self.invariant.running c.self.invariant.counted c.requires.next.0 c.args.numbers.now c.args.ty.now c.args.body.now (subst (λ (r : Run). EntersNext (instance r.module r.script) (configuration_of r) c.requires.next.0 c.args.numbers.now (own c.args.ty.now (declared_locals c.args.body.now.groups) c.args.body.now.code)) (sym c.self.view_is) c.requires.next.1);
  functions_are = c.self.invariant.functions_are;
  table_is = c.self.invariant.table_is;
}

pub returns : goal.returns
returns c = (
  ap one_more c.self.view_is,
  subst (λ (r : Run). RunsOn (configuration_of r) (configuration_of (one_more r))) c.self.view_is
      (first_on c.self.inside.module.now c.self.inside.script.now c.self.inside.made c.self.inside.stack c.self.inside.memory c.self.inside.globals c.self.inside.hosts c.self.invariant.running c.self.invariant.counted c.requires.next.0 c.args.numbers.now c.args.ty.now c.args.body.now (subst (λ (r : Run). EntersNext (instance r.module r.script) (configuration_of r) c.requires.next.0 c.args.numbers.now (own c.args.ty.now (declared_locals c.args.body.now.groups) c.args.body.now.code)) (sym c.self.view_is) c.requires.next.1)),
)
