-- The events and their rows.
use Rattle.std.proofs.Common.{◌≡◌, ◌<◌, refl, arith}
use Rattle.hook_select.specs.declared.Event.{Event}
use Rattle.hook_select.specs.declared.Event.TheVariants.{Start}
use Rattle.hook_select.specs.Events.{event_row, event_of, number_of, IsMade}

-- an event is what its fields make
pub told : (e : Event) → event_of (event_row e) ≡ e
told (Start loc) = refl
told e = refl

-- the number of an event is a byte, and not 0
pub numbered : (e : Event) → (0 < number_of e) × (number_of e < 256)
numbered (Start loc) = (omega arith, omega arith)
numbered e = (omega arith, omega arith)

-- fields are those of the event that they make
pub made : (e : Event) → IsMade (number_of e)
made (Start loc) fields = refl
made e fields = refl
