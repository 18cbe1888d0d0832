-- What comes of a plan in the program: a text and a status, or a refusal.
use Rattle.std.specs.Prelude.{◌≡◌, ℕ, ◌⊎◌, List, Option, Result, Ok, Err, string_bytes}
use Rattle.analyses.specs.Tools.{ToolState}
use Rattle.outside_io.specs.Outside.{ShelfState, PrintState}
use Rattle.app_load.specs.Printing.{Said}
use Rattle.app_load.specs.Texts.{no_memory_text}
use Rattle.app_load.specs.declared.printing.Printed.{Printed}
use Rattle.app_load.specs.declared.printing.Refusal.{Refusal}
use Rattle.app_load.specs.declared.printing.Refusal.TheVariants.{Line, NoMemory}
use Rattle.app_load.specs.Statuses.{status_number}
use Rattle.app_load.specs.Plans.{finish_status, Effect, Plan}
use Rattle.app_load.specs.Wants.{Want, content, Read, ReadCause}
use Rattle.app_load.specs.Ends.{Cause, IsCarriedOut}

-- the number of the status of a refusal
abbrev pub refusal_status : Refusal → ℕ
refusal_status (Line status line) = status_number status
refusal_status NoMemory = 14

-- the line that is printed for a refusal
abbrev pub refusal_text : Refusal → List ℕ
refusal_text (Line status line) = string_bytes line
refusal_text NoMemory = no_memory_text

-- the refusal has this status and this line, or is `NoMemory` because there was no memory for the line
abbrev pub IsRefusal : (status : ℕ) → (text : List ℕ) → Refusal → Type 0
IsRefusal status text refusal = (refusal ≡ NoMemory) ⊎ ((refusal_status refusal ≡ status) × (refusal_text refusal ≡ text))

-- the program carried out the effect of the plan but for the printing and has the text and the status of that effect,
-- or has a refusal for a cause
abbrev pub Yields : Option Plan → (old new : ShelfState) → (was is : List ToolState) → Result Printed Refusal → Type 0
Yields plan old new was is (Ok told) =
    (e : Effect) × IsCarriedOut plan old new was is e × (told.status ≡ finish_status e.finish) × (told.text.items ≡ e.text)
Yields plan old new was is (Err refusal) = Cause plan old new was is (refusal_status refusal) (refusal_text refusal)

-- the line of a refusal was to be printed, and the status is that of the refusal or 14
abbrev pub SaidRefusal : Refusal → (before after : PrintState) → (status : ℕ) → Type 0
SaidRefusal refusal before after status = Said (refusal_text refusal) (refusal_status refusal) (refusal_status refusal) before after status

-- ---- why a read is refused, as the program tells it

-- the read is refused with the status and the line of this refusal
abbrev pub RefusedBy : Read → (old new : ShelfState) → Refusal → Type 0
RefusedBy read old new refusal = ReadCause read old new (refusal_status refusal) (refusal_text refusal)

-- the refusal is `NoMemory`, or has a status and a line that tell what is wrong with the bytes
abbrev pub Refuted : Want → (name bytes : List ℕ) → Refusal → Type 0
Refuted want name bytes refusal = (refusal ≡ NoMemory) ⊎ (content want).Refutes name bytes (refusal_status refusal) (refusal_text refusal)
