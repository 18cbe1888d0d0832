use Rattle.std.proofs.Common.{◌∙◌, ◌++◌, ap, arith, length}
use Rattle.std.proofs.lemmas.List.Elements.{All-push}
use Rattle.wasm_sem.specs.Types.{Module}
use Rattle.code_valid.proofs.Few.{entries_fit}
use Rattle.wasm_sem.specs.Execution.{own_callees, import_callees}
use Rattle.run_store.specs.Resolved.{HasSize}
use Rattle.run_store.proofs.Resolving.{own_more}
use Rattle.run_store.proofs.functions.functions_of.Goals as goal

pub overflow_cast-defined-end : goal.overflow_cast-defined-end
overflow_cast-defined-end c =
    omega (arith, entries_fit c.args.valid.now c.module-2.ensures.whole, c.module-2.ensures.whole.bodies, ap length c.as_slice.ensures, ap (λ (m : Module). length m.bodies) c.module-2.ensures.module)

pub loop-defined-init : goal.loop-defined-init
loop-defined-init c = (
  ap (λ cs. cs ++ own_callees c.args.valid.now.types c.args.valid.now.funcs c.args.valid.now.bodies)
      (c.in_ok-functions.ensures.stand ∙ ap (λ (m : Module). import_callees m.types m.imports) c.module.ensures.module),
  c.in_ok-functions.ensures.sizes c.args.valid.now,
)

pub loop-defined-preserved : goal.loop-defined-preserved
loop-defined-preserved c =
    let n = ap (λ (m : Module). length m.bodies) c.module-2.ensures.module in
    let e = c.in_ok-push.ensures.items in
    rw e (
      own_more c.args.valid.now c.loop-defined.defined c.loop-defined.functions.items c.in_ok-own_function.field-0 c.module-2.ensures.whole (omega (arith, n, ap length c.as_slice.ensures)) c.loop-defined.invariant.0 c.in_ok-own_function.ensures.stands,
      All-push (HasSize c.args.valid.now) c.loop-defined.functions.items c.in_ok-own_function.field-0 c.loop-defined.invariant.1 c.in_ok-own_function.ensures.size,
    )
