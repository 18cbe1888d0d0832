use Rattle.std.proofs.Common.{◌≡◌, ◌∙◌, ◌++◌, ◌∷◌, ◌+◌, [], List, Vec, Global, ap, subst, sym, map, drop, arith}
use Rattle.std.specs.Prelude.{All}
use Rattle.std.proofs.lemmas.List.Elements.{All-push}
use Rattle.wasm_sem.specs.Types.{FuncType, Module}
use Rattle.wasm_sem.specs.Execution.{is_hook, item_callees, import_callees}
use Rattle.run_store.specs.declared.functions.Function.{Function}
use Rattle.run_store.specs.Resolved.{callee_for, HasSize}
use Rattle.run_store.proofs.Resolving.{import_more, import_none}
use Rattle.run_store.proofs.functions.imported_functions.Goals as goal
use Rattle.run_store.proofs.functions.imported_functions.Goals.{in-Some+in_ok-push, in_default}

pub loop-import-preserved : goal.loop-import-preserved
loop-import-preserved c =
    elim c.match-imported_function.branch [
      | in-Some+in_ok-push w ↦
          subst (λ (fs : List Function). (map callee_for fs ++ import_callees c.args.m.now.types (drop (c.loop-import.import-index + 1) c.as_slice-import-items.result.now) ≡ import_callees c.args.m.now.types c.args.m.now.imports) × ((n : Module) → All (HasSize n) fs))
          (sym (ap (λ (v : Vec Function Global). v.items) w.functions-is ∙ w.in_ok-push.ensures.items)) (
            import_more c.args.m.now.types c.as_slice-import-items.result.now c.loop-import.import-index c.import-item.result c.loop-import.functions.items (import_callees c.args.m.now.types c.args.m.now.imports)
                (omega (arith, c.loop-import-test.true)) c.import-item.is c.loop-import.invariant.0 w.in-Some.function
                (subst (λ (ts : List FuncType). item_callees ts (is_hook c.import-item.result) c.import-item.result.item ≡ callee_for w.in-Some.function ∷ []) c.as_slice.ensures w.in-Some.ensures.stands),
            λ n. All-push (HasSize n) c.loop-import.functions.items w.in-Some.function (c.loop-import.invariant.1 n) (w.in-Some.ensures.size n),
          )
      | in_default w ↦
          subst (λ (fs : List Function). (map callee_for fs ++ import_callees c.args.m.now.types (drop (c.loop-import.import-index + 1) c.as_slice-import-items.result.now) ≡ import_callees c.args.m.now.types c.args.m.now.imports) × ((n : Module) → All (HasSize n) fs))
          (sym (ap (λ (v : Vec Function Global). v.items) w.functions-is)) (
            import_none c.args.m.now.types c.as_slice-import-items.result.now c.loop-import.import-index c.import-item.result c.loop-import.functions.items (import_callees c.args.m.now.types c.args.m.now.imports)
                (omega (arith, c.loop-import-test.true)) c.import-item.is c.loop-import.invariant.0
                (subst (λ (ts : List FuncType). item_callees ts (is_hook c.import-item.result) c.import-item.result.item ≡ []) c.as_slice.ensures w.in_default.ensures.stands),
            c.loop-import.invariant.1,
          )
    ]
