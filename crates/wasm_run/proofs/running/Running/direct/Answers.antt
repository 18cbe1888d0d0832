use Rattle.std.proofs.Common.{◌≡◌, None, sym, ap, subst, arith, length}
use Rattle.std.proofs.lemmas.List.{length-map}
use Rattle.module_ast.specs.Structure.{code_of, plain, call}
use Rattle.wasm_sem.specs.Execution.{instance, Frame}
use Rattle.wasm_run.specs.Reaching.{Reaches}
use Rattle.run_store.specs.Resolved.{callee_for, HasSize}
use Rattle.wasm_run.specs.Running.{Run, configuration_of, Innermost}
use Rattle.run_store.proofs.Resolving.{function_at, function_size}
use Rattle.wasm_run.proofs.Targets.{direct_there, direct_reaches}
use Rattle.wasm_run.proofs.running.Running.direct.Goals as goal

pub index-requires : goal.index-requires
index-requires c =
    let at = subst (λ (r : Run). Innermost (λ (fr : Frame). fr.top.rest ≡ plain (call c.args.func) (code_of c.args.rest.now)) (configuration_of r)) (sym c.self.view_is) c.requires in
    let there = direct_there c.self.inside.module.now c.self.inside.script.now c.self.inside.made c.self.inside.stack c.self.inside.memory c.self.inside.globals c.self.invariant.running c.args.func (code_of c.args.rest.now) at in
    omega (arith, there, ap length c.self.invariant.functions_are.stand, length-map c.self.inside.functions.items callee_for, c.self.inside.functions.ok.0)

pub returns : goal.returns
returns c =
    let at = subst (λ (r : Run). Innermost (λ (fr : Frame). fr.top.rest ≡ plain (call c.args.func) (code_of c.args.rest.now)) (configuration_of r)) (sym c.self.view_is) c.requires in
    let there = direct_there c.self.inside.module.now c.self.inside.script.now c.self.inside.made c.self.inside.stack c.self.inside.memory c.self.inside.globals c.self.invariant.running c.args.func (code_of c.args.rest.now) at in
    let called = function_at c.self.inside.module.now c.self.inside.functions.items c.args.func c.index.result.now c.self.invariant.functions_are there c.index.ensures in (
      subst (λ (r : Run). Reaches (instance r.module r.script) (configuration_of r) None c.args.func (code_of c.args.rest.now) (callee_for c.index.result.now)) c.self.view_is
          (direct_reaches c.self.inside.module.now c.self.inside.script.now c.self.inside.made c.self.inside.stack c.self.inside.memory c.self.inside.globals c.self.invariant.running c.args.func (code_of c.args.rest.now) (callee_for c.index.result.now) called at),
      subst (λ (r : Run). HasSize r.module c.index.result.now) c.self.view_is
          (function_size c.self.inside.module.now c.self.inside.functions.items c.args.func c.index.result.now c.self.invariant.functions_are there c.index.ensures),
    )
