-- How a command ends, by its plan: the status, what is printed, what stands on the shelf, and which events the analyses
-- took.
use Rattle.std.specs.Prelude.{◌≡◌, ◌≢◌, ℕ, ◌<◌, ◌≤◌, ◌⊎◌, List, [], length, Option, Some, None}
use Rattle.outside_io.specs.Outside.{Contents, WhereKnown, Unchanged, Rose, IsMissing, IsTooLong, Printed, PrintedPart}
use Rattle.outside_io.specs.Outside.{ShelfState, OnlyRead, OnlyWrote, PrintState}
use Rattle.analyses.specs.Tools.{ToolState}
use Rattle.app_load.specs.Feeding.{fed, AreFedPart}
use Rattle.app_load.specs.Printing.{Said}
use Rattle.app_load.specs.Texts.{bad_words_text, no_memory_text}
use Rattle.app_load.specs.Wants.{content, Read, IsRead, ReadCause}
use Rattle.app_load.specs.Plans.{Reason, reason_status, finish_status, Effect, refuses, does, Plan, Leads, Comes, PassesAll, reads_to, reads_till}
use Rattle.app_load.specs.Statuses.{status_number, Class, of_words, of_names, of_reads, of_writes, of_bytes, of_scripts, of_reasons, of_effects, of_prints, of_memory, of_nothing}
use Rattle.app_load.specs.Writing.{WroteAll, WroteSome, FilesCause}

-- ---- the whole end

-- each analysis took a prefix, perhaps all, of the events of the plan's effect
abbrev pub TookSome : Option Plan → Option Contents → (was is : List ToolState) → Type 0
TookSome plan held was is = (e : Effect) × Leads held plan (does e) × AreFedPart e.kinds e.events was is

-- the files of the plan's effect were written in part
abbrev pub WrittenPart : Option Plan → (old new : Option Contents) → Type 0
WrittenPart plan old new = (e : Effect) × Leads old plan (does e) × WroteSome e.files old new

-- Why a command is refused, which calls of the shelf were made, which events the analyses took, and the status and the
-- line. As many reads were made as the plan has up to the refused read, up to the ending, or up to the moment when memory
-- ran out.
pub data Cause (plan : Option Plan) (old new : ShelfState) (was is : List ToolState) : (status : ℕ) → (text : List ℕ) → Type 0 where
  no_command : plan ≡ None → OnlyRead 0 old new → is ≡ was → Cause plan old new was is 2 bad_words_text
  unread : (read : Read) (status : ℕ) (text : List ℕ) (way : Comes old.contents plan read) → ReadCause read old new status text
      → OnlyRead (reads_till old.contents plan read way) old new → is ≡ was → Cause plan old new was is status text
  refused : (reason : Reason) (text : List ℕ) (way : Leads old.contents plan (refuses reason text))
      → OnlyRead (reads_to old.contents plan (refuses reason text) way) old new → is ≡ was → Cause plan old new was is (status_number (reason_status reason)) text
  unwritten : (e : Effect) (status : ℕ) (text : List ℕ) (way : Leads old.contents plan (does e)) (mid : ShelfState)
      → OnlyRead (reads_to old.contents plan (does e) way) old mid → FilesCause e.files mid new status text → is ≡ fed e.kinds e.events was → Cause plan old new was is status text
  memory_ended : (many : ℕ) → PassesAll old.contents plan many → OnlyRead many old new → (is ≡ was) ⊎ TookSome plan old.contents was is → Cause plan old new was is 14 no_memory_text

-- The plan came to this effect, and all of the effect but the printing was carried out. The reads of the plan were
-- made, each file was written once, and the analyses took the events.
pub record IsCarriedOut (plan : Option Plan) (old new : ShelfState) (was is : List ToolState) (e : Effect) : Type 0 where
  pub leads : Leads old.contents plan (does e)
  pub files : WroteAll e.files old.contents new.contents
  pub mid : ShelfState
  pub read : OnlyRead (reads_to old.contents plan (does e) leads) old mid
  pub wrote : OnlyWrote (length e.files) mid new
  pub taken : is ≡ fed e.kinds e.events was

-- The text of an answer is printed, or the status is 15 if the sink's count of faults rose. The status of a refusal
-- does not depend on how much of its line is printed. The status is 14 if memory runs out for a line or while a line is
-- printed.
pub data Ends (plan : Option Plan) (old new : ShelfState) (was is : List ToolState) (before after : PrintState) (status : ℕ) : Type 0 where
  answered : (e : Effect) → IsCarriedOut plan old new was is e → Said e.text (status_number (finish_status e.finish)) 15 before after status
      → Ends plan old new was is before after status
  refused_with : (cause : ℕ) (text : List ℕ) → Cause plan old new was is cause text → Said text cause cause before after status
      → Ends plan old new was is before after status

-- ---- what a status tells, by its class

-- nothing stands under a name that is read, or more bytes than the cap do; if the contents are unknown, the count at the name rose
abbrev pub IsUnread : Option Plan → (held : Option Contents) → (old new : (name : List ℕ) → ℕ) → Type 0
IsUnread plan held old new =
    (read : Read)
    × Comes held plan read
    × (IsMissing held read.name (old read.name) (new read.name) ⊎ ((long : ℕ) × IsTooLong held read.name read.cap long (old read.name) (new read.name)))

-- a read of the plan got bytes that are not what they must be
abbrev pub IsRefuted : Option Plan → (held : Option Contents) → (status : ℕ) → Type 0
IsRefuted plan held status = (read : Read) × (bytes : List ℕ) × Comes held plan read × IsRead held read bytes × (content read.want).IsWrong bytes status

-- each read gave a value, and the plan refuses for a reason with this status
abbrev pub LeadsToRefusal : Option Plan → (held : Option Contents) → (status : ℕ) → Type 0
LeadsToRefusal plan held status = (reason : Reason) × (text : List ℕ) × Leads held plan (refuses reason text) × (status_number (reason_status reason) ≡ status)

-- nothing was written, and the analyses took no event
abbrev pub IsKept : (old new : Option Contents) → (was is : List ToolState) → Type 0
IsKept old new was is = Unchanged old new × (is ≡ was)

-- what a status of a class tells
abbrev pub Tells : Option Plan → (old new : ShelfState) → (was is : List ToolState) → (before after : PrintState) → (status : ℕ) → Class → Type 0
Tells plan old new was is before after status of_words = (plan ≡ None) × IsKept old.contents new.contents was is
Tells plan old new was is before after status of_names =
    IsUnread plan old.contents old.read_faults new.read_faults × IsKept old.contents new.contents was is
Tells plan old new was is before after status of_reads =
    ((read : Read) × Comes old.contents plan read × Rose (old.read_faults read.name) (new.read_faults read.name)) × IsKept old.contents new.contents was is
Tells plan old new was is before after status of_bytes = IsRefuted plan old.contents status × IsKept old.contents new.contents was is
Tells plan old new was is before after status of_scripts =
    (IsRefuted plan old.contents status ⊎ LeadsToRefusal plan old.contents status) × IsKept old.contents new.contents was is
Tells plan old new was is before after status of_reasons = LeadsToRefusal plan old.contents status × IsKept old.contents new.contents was is
Tells plan old new was is before after status of_writes =
    Rose old.write_faults new.write_faults × ((e : Effect) × Leads old.contents plan (does e) × (e.files ≢ []) × WroteSome e.files old.contents new.contents × (is ≡ fed e.kinds e.events was))
Tells plan old new was is before after status of_effects =
    (e : Effect) × IsCarriedOut plan old new was is e × (status_number (finish_status e.finish) ≡ status) × Printed e.text before.text after.text
Tells plan old new was is before after status of_prints =
    Rose before.faults after.faults
    × ((e : Effect) × IsCarriedOut plan old new was is e × PrintedPart e.text before.text after.text)
Tells plan old new was is before after status of_memory =
    (Unchanged old.contents new.contents ⊎ WrittenPart plan old.contents new.contents) × ((is ≡ was) ⊎ TookSome plan old.contents was is)
Tells plan old new was is before after status of_nothing = ⊥

-- ---- if the contents are known, what stands there decides the status, apart from faults and want of memory

-- the status is the expected one, or 4 because of a fault, or 14 because memory ran out
abbrev pub IsBut : (status expected : ℕ) → Type 0
IsBut status expected = (status ≡ expected) ⊎ ((status ≡ 4) ⊎ (status ≡ 14))

-- what stands under the name of a read is not what it must be, with the status that tells so
pub data IsBad (contents : Contents) (read : Read) : ℕ → Type 0 where
  absent : contents read.name ≡ None → IsBad contents read 3
  over : (bytes : List ℕ) → contents read.name ≡ Some bytes → read.cap < length bytes → IsBad contents read 3
  wrong : (bytes : List ℕ) (status : ℕ) → contents read.name ≡ Some bytes → length bytes ≤ read.cap → (content read.want).IsWrong bytes status
      → IsBad contents read status

-- if the plan comes to a read whose bytes are bad, that read decides the status
abbrev pub DecidesReads : Option Plan → Option Contents → (status : ℕ) → Type 0
DecidesReads plan held status =
    WhereKnown held (λ contents. (read : Read) (expected : ℕ) → Comes held plan read → IsBad contents read expected → IsBut status expected)

-- if the plan comes to a refusal, the reason decides the status
abbrev pub DecidesRefusals : Option Plan → Option Contents → (status : ℕ) → Type 0
DecidesRefusals plan held status =
    WhereKnown held (λ _. (reason : Reason) (text : List ℕ) → Leads held plan (refuses reason text) → IsBut status (status_number (reason_status reason)))

-- If the plan comes to an effect, the finish decides the status, or the status is 5, 15, 4 or 14. 5 comes only if files
-- are to be written, and 4, 5 and 15 come only if a count of faults rose.
abbrev pub DecidesEffects : Option Plan → Option Contents → (status : ℕ) → Type 0
DecidesEffects plan held status =
    WhereKnown held (λ _. (e : Effect) → Leads held plan (does e)
    → ((e.files ≢ []) × (status ≡ 5)) ⊎ ((status ≡ 15) ⊎ IsBut status (status_number (finish_status e.finish))))
