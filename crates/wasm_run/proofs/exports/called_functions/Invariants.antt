use Rattle.std.proofs.Common.{◌≡◌, Some, map, take}
use Rattle.wasm_sem.specs.declared.Call.{Call}
use Rattle.wasm_sem.specs.Execution.{exported_func}
use Rattle.wasm_run.proofs.exports.called_functions.Given as goal

-- those of the first ones
abbrev pub invariant-loop-call : goal.invariant-loop-call
invariant-loop-call l = map Some l.functions.items ≡ map (λ (c : Call). exported_func c.export.bytes l.linked.exports) (take l.call-index l.call-items)
