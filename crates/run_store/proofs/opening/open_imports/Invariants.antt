use Rattle.std.proofs.Common.{◌≡◌, ◌++◌, drop, length, map}
use Rattle.wasm_sem.specs.Types.{GlobalType}
use Rattle.module_ast.specs.Structure.{imported_globals}
use Rattle.wasm_sem.specs.Execution.{values_of, opening_imports}
use Rattle.run_store.proofs.opening.open_imports.Given as goal

-- the values so far, and those of the imports to come, are all of them
abbrev pub invariant-loop-import : goal.invariant-loop-import
invariant-loop-import l =
    l.values.items ++ values_of (map (λ (g : GlobalType). g.ty) (imported_globals (drop l.import-index l.import-items))) (drop (length l.values.items) l.script.globals) ≡ opening_imports l.m l.script
