-- What a command does, in order: the command reads one name after the other, and then is refused or takes effect.
use Rattle.std.specs.Prelude.{◌≡◌, ℕ, zero, suc, ◌⊎◌, List, [], Option, Some, None}
use Rattle.std.proofs.Common.{inl, inr}
use Rattle.outside_io.specs.Outside.{Contents}
use Rattle.wasm_sem.specs.Types.{Event}
use Rattle.app_load.specs.declared.kinds.Kinds.{Kinds}
use Rattle.app_load.specs.declared.status.Status.{Status}
use Rattle.app_load.specs.declared.status.Status.TheVariants as status
use Rattle.app_load.specs.Kinds.{no_kinds}
use Rattle.app_load.specs.Wants.{Value, Read, Gives}

-- why a command is refused because of what was read, although each read gave what it must
pub data Reason : Type 0 where
  no_output : Reason
  no_call : Reason
  out_of_range : Reason
  long_trace : Reason
  no_import : Reason
  few_groups : Reason
  not_nested : Reason
  no_function : Reason

-- the status of a command that is refused for this reason
abbrev pub reason_status : Reason → Status
reason_status no_output = status.NoOutput
reason_status no_call = status.BadScript
reason_status out_of_range = status.OutOfRange
reason_status long_trace = status.LongTrace
reason_status no_import = status.NoImport
reason_status few_groups = status.FewGroups
reason_status not_nested = status.NotNested
reason_status no_function = status.NoFunction

-- how a command ends that is not refused: what the command runs has ended without a trap, has trapped, or has not ended
pub data Finish : Type 0 where
  done : Finish
  trapped : Finish
  unfinished : Finish

-- the status of a command that ends so
abbrev pub finish_status : Finish → Status
finish_status done = status.Done
finish_status trapped = status.Trapped
finish_status unfinished = status.Unfinished

-- the bytes to write under a name
pub record File : Type 0 where
  pub name : List ℕ
  pub bytes : List ℕ

-- the file with this name and these bytes
abbrev pub file : (name bytes : List ℕ) → File
file name bytes = record { name = name; bytes = bytes }

-- What a command does that is not refused: the analyses of these kinds take these events, these files are written in
-- order, and this text is printed.
pub record Effect : Type 0 where
  pub kinds : Kinds
  pub events : List Event
  pub files : List File
  pub text : List ℕ
  pub finish : Finish

-- the effect that only prints a text
abbrev pub prints : (text : List ℕ) → Finish → Effect
prints text finish = record { kinds = no_kinds; events = []; files = []; text = text; finish = finish }

-- the end of a plan: a refusal with its line, or an effect
pub data Ending : Type 0 where
  refuses : Reason → (text : List ℕ) → Ending
  does : Effect → Ending

-- a plan either reads a name and goes on with the value that the read gives, or ends
pub data Plan : Type 0 where
  reads : (read : Read) → (Value read.want → Plan) → Plan
  ends : Ending → Plan

-- the plan that refuses
abbrev pub refusing : Reason → (text : List ℕ) → Plan
refusing reason text = ends (refuses reason text)

-- the plan that only prints a text
abbrev pub printing : (text : List ℕ) → Finish → Plan
printing text finish = ends (does (prints text finish))

-- the reads of the plan each give a value, and with these values the plan comes to this ending
abbrev pub LeadsTo : Option Contents → Plan → Ending → Type 0
LeadsTo held (reads read next) ending = (value : Value read.want) × Gives held read value × LeadsTo held (next value) ending
LeadsTo held (ends e) ending = e ≡ ending

-- the plan comes to this read: each read before this read gives a value
abbrev pub ComesTo : Option Contents → Plan → Read → Type 0
ComesTo held (reads first next) read = (first ≡ read) ⊎ ((value : Value first.want) × Gives held first value × ComesTo held (next value) read)
ComesTo held (ends e) read = ⊥

-- the first `many` reads of the plan each give a value
abbrev pub Passes : Option Contents → Plan → (many : ℕ) → Type 0
Passes held plan zero = Unit {0}
Passes held (reads read next) (suc more) = (value : Value read.want) × Gives held read value × Passes held (next value) more
Passes held (ends e) (suc more) = ⊥

-- the number of reads on the way to an ending
abbrev pub reads_led : (held : Option Contents) (plan : Plan) (ending : Ending) → LeadsTo held plan ending → ℕ
reads_led held (reads read next) ending way = suc (reads_led held (next way.0) ending way.2)
reads_led held (ends e) ending way = 0

-- the number of reads on the way to a read, with that read counted
abbrev pub reads_come : (held : Option Contents) (plan : Plan) (read : Read) → ComesTo held plan read → ℕ
reads_come held (reads first next) read (inl is) = 1
reads_come held (reads first next) read (inr way) = suc (reads_come held (next way.0) read way.2)
reads_come held (ends e) read way = 0

-- The next definitions say the same of the plan of a command's words. Words that are no command have no plan.

-- there is a plan, and the plan comes to this ending
abbrev pub Leads : Option Contents → Option Plan → Ending → Type 0
Leads held None ending = ⊥
Leads held (Some plan) ending = LeadsTo held plan ending

-- there is a plan, and the plan comes to this read
abbrev pub Comes : Option Contents → Option Plan → Read → Type 0
Comes held None read = ⊥
Comes held (Some plan) read = ComesTo held plan read

-- the first `many` reads of the plan each give a value; if there is no plan, `many` is 0
abbrev pub PassesAll : Option Contents → Option Plan → (many : ℕ) → Type 0
PassesAll held None many = many ≡ 0
PassesAll held (Some plan) many = Passes held plan many

-- the number of reads on the way to an ending
abbrev pub reads_to : (held : Option Contents) (plan : Option Plan) (ending : Ending) → Leads held plan ending → ℕ
reads_to held None ending way = 0
reads_to held (Some plan) ending way = reads_led held plan ending way

-- the number of reads on the way to a read, with that read counted
abbrev pub reads_till : (held : Option Contents) (plan : Option Plan) (read : Read) → Comes held plan read → ℕ
reads_till held None read way = 0
reads_till held (Some plan) read way = reads_come held plan read way
