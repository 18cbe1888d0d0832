-- What holds of some modes alone.
use Rattle.std.specs.Prelude.{◌≡◌, ◌≢◌, ℕ, ◌⊎◌, List, [], ◌∷◌, codes, bytes_eq, Some, true}
use Rattle.std.specs.List.{list_any}
use Rattle.outside_io.specs.Outside.{Unchanged}
use Rattle.analyses.specs.Tools.{ToolState}
use Rattle.outside_io.specs.Outside.{ShelfState, PrintState}
use Rattle.app_load.specs.Ends.{Ends}
use Rattle.wasabi_app.specs.Words.{Given, given}
use Rattle.wasabi_app.specs.Modes.{plan_of}

-- the words ask for one of these modes
abbrev pub IsOf : (modes : List (List ℕ)) → (words : List (List ℕ)) → Type 0
IsOf modes words = (g : Given) × (given words ≡ Some g) × (list_any (bytes_eq g.mode) modes ≡ true)

-- these modes write; the other modes leave the shelf as it is, and never answer 5
abbrev pub SomeWrite : Type 0
SomeWrite =
    (words : List (List ℕ)) (old new : ShelfState) (was is : List ToolState) (before after : PrintState) (status : ℕ)
    → Ends (plan_of words) old new was is before after status
    → IsOf (codes "instrument" ∷ codes "record" ∷ []) words ⊎ (Unchanged old.contents new.contents × (status ≢ 5))

-- in these modes the analyses take events; the other modes leave the analyses as they are
abbrev pub SomeFeed : Type 0
SomeFeed =
    (words : List (List ℕ)) (old new : ShelfState) (was is : List ToolState) (before after : PrintState) (status : ℕ)
    → Ends (plan_of words) old new was is before after status
    → IsOf (codes "report" ∷ codes "replay" ∷ codes "trial" ∷ []) words ⊎ (is ≡ was)

-- these modes refuse an output that cannot be made; the other modes never answer 9
abbrev pub SomeMake : Type 0
SomeMake =
    (words : List (List ℕ)) (old new : ShelfState) (was is : List ToolState) (before after : PrintState) (status : ℕ)
    → Ends (plan_of words) old new was is before after status
    → IsOf (codes "instrument" ∷ codes "trial" ∷ codes "taint" ∷ []) words ⊎ (status ≢ 9)
