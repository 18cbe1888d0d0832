use Rattle.std.proofs.Common.{◌≡◌, ◌++◌, ◌≤◌, drop, take, length}
use Rattle.wasm_sem.specs.Execution.{opening_imports, opening_globals, defined_globals}
use Rattle.run_store.proofs.opening.open_globals.Given as goal

-- the imported ones stand first, and the values so far and those to come are all of them
abbrev pub invariant-loop-global : goal.invariant-loop-global
invariant-loop-global l = record {
  front : take l.imported l.values.items ≡ opening_imports l.m l.script;
  long : l.imported ≤ length l.values.items;
  told : l.values.items ++ defined_globals (opening_imports l.m l.script) (drop l.global-index l.global-items) ≡ opening_globals l.m l.script;
}
