-- Items, and how they change a shadow.
use Rattle.std.specs.Prelude.{◌≡◌, List, ◌∷◌, ◌++◌, Some}
use Rattle.wasm_sem.specs.Execution.{TraceItem}
use Rattle.shadow_replay.specs.Events.{IsItemFit, effects, tainted_effects}
use Rattle.shadow_replay.specs.Replayed.{Replay}
use Rattle.shadow_replay.specs.Shadow.{Shadow}

-- each item is fit for the state that the items before it make
abbrev pub AreFitFor : Replay → List TraceItem → Type 0
AreFitFor r is =
    (before behind : List TraceItem) (i : TraceItem) → is ≡ before ++ i ∷ behind
    → (sh : Shadow) × (effects r.module r.limit (Some r.shadow.state) before ≡ Some sh) × IsItemFit r.module r.limit sh i

-- the items, one after another, change the state with its marks and warnings, and nothing else
pub record TakesAll (is : List TraceItem) (old new : Replay) : Type 0 where
  pub effect : tainted_effects old.module old.limit old.watch (Some old.shadow) is ≡ Some new.shadow
  pub «module» : new.module ≡ old.module
  pub limit : new.limit ≡ old.limit
  pub watch : new.watch ≡ old.watch

-- a front of the items does
abbrev pub TakesFirst : (is : List TraceItem) → (old new : Replay) → Type 0
TakesFirst is old new = (front : List TraceItem) × (rest : List TraceItem) × (is ≡ front ++ rest) × TakesAll front old new
