-- The locals that functions begin with.
use Rattle.std.specs.Prelude.{List, ◌++◌, map, false}
use Rattle.wasm_sem.specs.Types.{ValType}
use Rattle.wasm_sem.specs.Execution.{zero_of, Callee, host, hook, own}
use Rattle.shadow_replay.specs.declared.marked.Marked.{Marked}

-- zeros that are not marked
abbrev pub zero_locals : List ValType → List Marked
zero_locals ts = map (λ (t : ValType). record { value = zero_of t; mark = false }) ts

abbrev pub begun_with : Callee → (args : List Marked) → List Marked
begun_with (own ty locals code) ms = ms ++ zero_locals locals
begun_with (host ty) ms = ms
begun_with (hook ty) ms = ms
