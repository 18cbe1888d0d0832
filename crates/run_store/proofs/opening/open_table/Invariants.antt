use Rattle.std.proofs.Common.{◌≡◌, drop, length, replicate, true, None}
use Rattle.module_ast.specs.Structure.{tables_of}
use Rattle.wasm_sem.specs.Execution.{least_size, fit_elements, with_elements}
use Rattle.run_store.proofs.opening.open_table.Given as goal

-- the elements to come fit, and lead to the same slots as all
abbrev pub invariant-loop-element : goal.invariant-loop-element
invariant-loop-element l = record {
  fits : fit_elements l.globals (length l.slots.items) (drop l.element-index l.element-items) ≡ true;
  told : with_elements l.globals (drop l.element-index l.element-items) l.slots.items ≡ with_elements l.globals l.m.elements (replicate (least_size (tables_of l.m)) None);
}
