-- How often each function grew the memory.
use Rattle.std.specs.Prelude.{◌≡◌, ℕ, ◌+◌, ◌-◌, ◌^◌, ◌<◌, List, [], ◌++◌, fold, All, Bool, if◌then◌else◌, ◌==◌, Option, Some, None}
use Rattle.std.specs.Map.{lookup, values_of}
use Rattle.std.specs.Ordering.{nat_cmp}
use Rattle.std.specs.BTreeMap.{insert_entry, is_at}
use Rattle.std.specs.declared.alloc.AllocError.{AllocError}
use Rattle.wasm_sem.specs.Types.{Event}
use Rattle.hook_select.specs.declared.Event.TheVariants.{MemoryGrow}
use Rattle.memory_growth.specs.declared.growing.Growth.{Growth}

-- ---- what events tell

-- one growth more, after those so far
abbrev pub once_more : Option Growth → (refused : Bool) → Growth
once_more None refused = record { times = 1; refused = if refused then 1 else 0 }
once_more (Some g) refused = record { times = g.times + 1; refused = g.refused + (if refused then 1 else 0) }

-- what an event tells of the memory: which function grew it, and whether that was refused by the answer -1
abbrev pub growth_of : Event → Option (ℕ × Bool)
growth_of (MemoryGrow loc by previous) = Some (loc.func, previous == 2 ^ 32 - 1)
growth_of _ = None

-- functions with their growths, by rising function, after one of them grew the memory
abbrev pub with_growth : Option (ℕ × Bool) → List (ℕ × Growth) → List (ℕ × Growth)
with_growth None gs = gs
with_growth (Some (func, refused)) gs = insert_entry nat_cmp gs func (once_more (lookup (is_at (nat_cmp func)) gs) refused)

-- functions with their growths, after an event
abbrev pub growths_after : List (ℕ × Growth) → Event → List (ℕ × Growth)
growths_after gs e = with_growth (growth_of e) gs

-- the growths that events tell, from the first event on
abbrev pub growths : List Event → List (ℕ × Growth)
growths es = fold growths_after [] es

-- ---- what hears of a run

-- the events are counted
abbrev pub Counts : List Event → (old new : List (ℕ × Growth)) → Type 0
Counts es old new = new ≡ fold growths_after old es

-- `n` more can be counted
abbrev pub MayCount : ℕ → Growth → Type 0
MayCount n g = (g.times + n < 2 ^ 64) × (g.refused + n < 2 ^ 64)

abbrev pub MayCountAll : ℕ → List (ℕ × Growth) → Type 0
MayCountAll n gs = (n < 2 ^ 64) × All (MayCount n) (values_of gs)

-- when memory ended, the first of the events had been counted
abbrev pub CountsFirst : List Event → (old : List (ℕ × Growth)) → AllocError → (new : List (ℕ × Growth)) → Type 0
CountsFirst es old fault new = (first : List Event) × (rest : List Event) × (es ≡ first ++ rest) × Counts first old new
