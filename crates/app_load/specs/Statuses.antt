-- The statuses: the number of each, and its class, which is what the status tells about.
use Rattle.std.specs.Prelude.{ℕ, ◌==◌, List, [], ◌∷◌, cond}
use Rattle.app_load.specs.declared.status.Status.{Status}
use Rattle.app_load.specs.declared.status.Status.TheVariants as status

-- the number that the program ends with
abbrev pub status_number : Status → ℕ
status_number status.Done = 0
status_number status.BadWords = 2
status_number status.Missing = 3
status_number status.Unread = 4
status_number status.Unwritten = 5
status_number status.Malformed = 6
status_number status.Unfit = 7
status_number status.Invalid = 8
status_number status.NoOutput = 9
status_number status.BadScript = 10
status_number status.OutOfRange = 11
status_number status.Trapped = 12
status_number status.Unfinished = 13
status_number status.NoMemory = 14
status_number status.Unprinted = 15
status_number status.BadInfo = 16
status_number status.LongTrace = 18
status_number status.NotTrace = 19
status_number status.NoImport = 20
status_number status.FewGroups = 21
status_number status.NotNested = 22
status_number status.NoFunction = 23

-- what a status tells about; `of_nothing` is the class of a number that no status has
pub data Class : Type 0 where
  of_words : Class
  of_names : Class
  of_reads : Class
  of_writes : Class
  of_bytes : Class
  of_scripts : Class
  of_reasons : Class
  of_effects : Class
  of_prints : Class
  of_memory : Class
  of_nothing : Class

-- the class of each status
abbrev pub status_class : Status → Class
status_class status.Done = of_effects
status_class status.BadWords = of_words
status_class status.Missing = of_names
status_class status.Unread = of_reads
status_class status.Unwritten = of_writes
status_class status.Malformed = of_bytes
status_class status.Unfit = of_bytes
status_class status.Invalid = of_bytes
status_class status.NoOutput = of_reasons
status_class status.BadScript = of_scripts
status_class status.OutOfRange = of_reasons
status_class status.Trapped = of_effects
status_class status.Unfinished = of_effects
status_class status.NoMemory = of_memory
status_class status.Unprinted = of_prints
status_class status.BadInfo = of_bytes
status_class status.LongTrace = of_reasons
status_class status.NotTrace = of_bytes
status_class status.NoImport = of_reasons
status_class status.FewGroups = of_reasons
status_class status.NotNested = of_reasons
status_class status.NoFunction = of_reasons

-- each status, once
abbrev pub every_status : List Status
every_status =
    status.Done ∷ status.BadWords ∷ status.Missing ∷ status.Unread ∷ status.Unwritten ∷ status.Malformed ∷ status.Unfit
    ∷ status.Invalid ∷ status.NoOutput ∷ status.BadScript ∷ status.OutOfRange ∷ status.Trapped ∷ status.Unfinished
    ∷ status.NoMemory ∷ status.Unprinted ∷ status.BadInfo ∷ status.LongTrace ∷ status.NotTrace ∷ status.NoImport
    ∷ status.FewGroups ∷ status.NotNested ∷ status.NoFunction ∷ []

-- the class of the first status of a list that has this number
abbrev pub class_among : List Status → ℕ → Class
class_among [] n = of_nothing
class_among (s ∷ rest) n = cond (n == status_number s) (status_class s) (class_among rest n)

-- the class of the status with this number
abbrev pub class_of : ℕ → Class
class_of n = class_among every_status n
