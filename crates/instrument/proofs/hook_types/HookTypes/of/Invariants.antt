use Rattle.std.proofs.Common.{◌≡◌, length, map, take}
use Rattle.wasm_sem.specs.Types.{FuncType}
use Rattle.hook_mono.specs.Words.{hook_type}
use Rattle.instrument.specs.Output.{distinct_types}
use Rattle.instrument.proofs.hook_types.HookTypes.of.Given as goal

abbrev pub invariant-loop-key : goal.invariant-loop-key
invariant-loop-key l = record {
  so_far : l.types.items ≡ distinct_types (map hook_type (take l.key-index l.keys));
  lengths : l.lengths.keys ≡ map (λ (t : FuncType). length t.params) l.types.items;
}
