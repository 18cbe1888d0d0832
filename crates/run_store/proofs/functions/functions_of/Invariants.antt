use Rattle.std.proofs.Common.{◌≡◌, ◌++◌, drop, map}
use Rattle.std.specs.Prelude.{All}
use Rattle.wasm_sem.specs.Execution.{own_callees, callees_of}
use Rattle.run_store.specs.Resolved.{callee_for, HasSize}
use Rattle.run_store.proofs.functions.functions_of.Given as goal

abbrev pub invariant-loop-defined : goal.invariant-loop-defined
invariant-loop-defined l =
    (map callee_for l.functions.items ++ own_callees l.valid.types (drop l.defined l.valid.funcs) (drop l.defined l.valid.bodies) ≡ callees_of l.valid)
    × All (HasSize l.valid) l.functions.items
