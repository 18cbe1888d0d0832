use Rattle.std.proofs.Common.{◌≡◌, ◌++◌, drop}
use Rattle.wasm_encode.specs.Outline.{entries_bytes}
use Rattle.wasm_encode.proofs.bodies.put_entries.Given as goal

abbrev pub invariant-loop-body : goal.invariant-loop-body
invariant-loop-body l =
    l.out.items ++ entries_bytes (drop l.body-index l.bodies) ≡ l.initial.out.items ++ entries_bytes l.bodies
