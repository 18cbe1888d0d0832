use Rattle.std.proofs.Common.{◌≡◌, ◌++◌, drop, map}
use Rattle.std.specs.Prelude.{All}
use Rattle.wasm_sem.specs.Types.{Module}
use Rattle.wasm_sem.specs.Execution.{import_callees}
use Rattle.run_store.specs.Resolved.{callee_for, HasSize}
use Rattle.run_store.proofs.functions.imported_functions.Given as goal

abbrev pub invariant-loop-import : goal.invariant-loop-import
invariant-loop-import l =
    (map callee_for l.functions.items ++ import_callees l.m.types (drop l.import-index l.import-items) ≡ import_callees l.m.types l.m.imports)
    × ((m : Module) → All (HasSize m) l.functions.items)
