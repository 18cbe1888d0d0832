-- Growths of a few events.
use Rattle.std.proofs.Common.{◌≡◌, ℕ, ◌-◌, ◌^◌, pos, List, [], ◌∷◌, refl}
use Rattle.wasm_sem.specs.Types.{Event}
use Rattle.wasm_sem.specs.Execution.{loc}
use Rattle.hook_select.specs.declared.Event.TheVariants.{MemoryGrow, MemorySize}
use Rattle.memory_growth.specs.declared.growing.Growth.{Growth}
use Rattle.memory_growth.specs.Growths.{growths}

abbrev grow : (func previous : ℕ) → Event
grow func previous = MemoryGrow (loc func (pos 4)) 1 previous

abbrev growth : (times refused : ℕ) → Growth
growth times refused = record { times = times; refused = refused }

abbrev told : List Event
told = grow 7 2 ∷ MemorySize (loc 2 (pos 0)) 3 ∷ grow 2 3 ∷ grow 7 (2 ^ 32 - 1) ∷ []

by_function : growths told ≡ (2, growth 1 0) ∷ (7, growth 2 1) ∷ []
by_function = refl

none : growths (MemorySize (loc 2 (pos 0)) 3 ∷ []) ≡ []
none = refl
