-- What the ending of a command tells about its plan, and what decides the ending.
use Rattle.std.specs.Prelude.{◌≡◌, ◌⊎◌, ℕ, List, Option, None}
use Rattle.outside_io.specs.Outside.{ShelfState, PrintState}
use Rattle.analyses.specs.Tools.{ToolState}
use Rattle.app_load.specs.Plans.{Plan}
use Rattle.app_load.specs.Statuses.{class_of}
use Rattle.app_load.specs.Ends.{Ends, Tells, DecidesReads, DecidesRefusals, DecidesEffects}

-- what the class of the status tells is true of each ending
abbrev pub EndsTell : Type 0
EndsTell =
    (plan : Option Plan) (old new : ShelfState) (was is : List ToolState) (before after : PrintState) (status : ℕ)
    → Ends plan old new was is before after status → Tells plan old new was is before after status (class_of status)

-- if the contents are known, they decide the status of each ending, apart from faults and want of memory
abbrev pub EndsDecided : Type 0
EndsDecided =
    (plan : Option Plan) (old new : ShelfState) (was is : List ToolState) (before after : PrintState) (status : ℕ)
    → Ends plan old new was is before after status
    → DecidesReads plan old.contents status × DecidesRefusals plan old.contents status × DecidesEffects plan old.contents status

-- if the words have no plan, they are refused with status 2, or with status 14 if memory runs out
abbrev pub EndsRefused : Type 0
EndsRefused =
    (old new : ShelfState) (was is : List ToolState) (before after : PrintState) (status : ℕ) → Ends None old new was is before after status
    → (status ≡ 2) ⊎ (status ≡ 14)
