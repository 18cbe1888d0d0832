-- What a reader of the program's contract asks of the mode `instrument`: what is written if its work was done.
use Rattle.std.specs.Prelude.{◌≡◌, ◌≢◌, ◌⊎◌, ℕ, ◌≤◌, List, length, codes, Bool, Option, Some, None}
use Rattle.outside_io.specs.Outside.{Contents, Holds, Unchanged, Wrote}
use Rattle.wasm_sem.specs.Types.{Module, Selection}
use Rattle.module_ast.specs.Validation.{longest_narrow_file}
use Rattle.hook_select.specs.Groups.{reads, read_list}
use Rattle.static_info.specs.declared.Info.{Info}
use Rattle.static_info.specs.Belongs.{Belongs}
use Rattle.static_info.specs.Info.{info_of}
use Rattle.static_info.specs.Json.{HoldInfo}
use Rattle.static_info.specs.Read.{info_remap}
use Rattle.name_map.specs.declared.Names.{Names}
use Rattle.instrument.specs.Accepted.{IsAccepted}
use Rattle.instrument.specs.Made.{IsSound}
use Rattle.command_line.specs.Lines.{Line, line_of_words}
use Rattle.app_load.specs.Wants.{AreKept}
use Rattle.wasabi_app.specs.KeptNames.{CarriesNames, named_output}
use Rattle.wasabi_app.specs.Making.{information_text}
use Rattle.wasabi_app.specs.Selecting.{IsSelected}
use Rattle.wasabi_app.specs.Words.{keeps_read}

-- the work of the mode was done
abbrev pub IsDone : (status : ℕ) → Type 0
IsDone status = (status ≡ 0) ⊎ (status ≡ 15)

-- the information is under its name, if it has one; all other names are as before
abbrev pub WroteInfo : Option (List ℕ) → (told : List ℕ) → (old new : Option Contents) → Type 0
WroteInfo None told old new = Unchanged old new
WroteInfo (Some name) told old new = Wrote name told old new

-- if words ask for the mode and its work was done, this holds of their line
abbrev pub IfInstrumented : (words : List (List ℕ)) → (status : ℕ) → (Line → Type 0) → Type 0
IfInstrumented words status Holds =
    (line : Line) → line_of_words words ≡ Some line → line.mode ≡ codes "instrument" → IsDone status → Holds line

-- The subject's bytes are an accepted module. The bytes that are told hold information with the selected groups, and this
-- information belongs to the output. Read with it, the output is a sound one of the subject.
pub record IsHooked (hooks : Selection) (subject output told : List ℕ) : Type 0 where
  pub original : Module
  pub accepted : IsAccepted subject original
  pub info : Info
  pub holds : HoldInfo told info
  pub groups : info.groups ≡ hooks.groups
  pub sound : IsSound info original hooks output
  pub belongs : Belongs info sound.result

-- The line names groups, a target, and another name for the information or none. Under the target's name is an output of
-- what is under the subject's name, with hooks of these groups: in some of its functions, or in all if the line has no list of
-- functions. It is no longer than the bound. Under the information's name, if one is given, is the information on it. All
-- other names of the shelf are as before.
pub record IsWritten (line : Line) (old new : Option Contents) : Type 0 where
  pub hooks : Selection
  pub listed : read_list line.hooks ≡ reads hooks.groups
  pub everywhere : line.functions ≡ None → line.except ≡ None → hooks.functions ≡ None
  pub target : List ℕ
  pub wanted : line.out ≡ Some target
  pub apart : line.info ≢ Some target
  pub subject : List ℕ
  pub there : Holds old line.subject subject
  pub short : length subject ≤ longest_narrow_file
  pub output : List ℕ
  pub told : List ℕ
  pub is : IsHooked hooks subject output told
  pub within : length output ≤ line.max_output
  pub between : Option Contents
  pub wrote : Wrote target output old between
  pub wrote_info : WroteInfo line.info told between new

-- The functions with hooks are those that the lists of the line choose.
abbrev pub ChoosesHooks : (line : Line) (old new : Option Contents) → IsWritten line old new → Type 0
ChoosesHooks line old new written =
    IsSelected written.hooks.groups line.functions line.except written.subject written.is.original written.hooks

-- what is written has its hooks in the right functions
abbrev pub IsChosen : Line → (old new : Option Contents) → Type 0
IsChosen line old new = (written : IsWritten line old new) × ChoosesHooks line old new written

-- The output carries the names that the subject carries, if the line says that they are kept, and otherwise no names.
pub record KeepsNames (line : Line) (old new : Option Contents) (written : IsWritten line old new) : Type 0 where
  pub keeps : Bool
  pub chosen : keeps_read line.names ≡ Some keeps
  pub names : Names
  pub kept : AreKept keeps written.subject written.is.original names
  pub carries : CarriesNames names (info_remap written.is.info) written.output written.is.sound.result

-- and carries the right names
abbrev pub IsNamed : Line → (old new : Option Contents) → Type 0
IsNamed line old new = (written : IsWritten line old new) × ChoosesHooks line old new written × KeepsNames line old new written

-- And these are its very bytes.
pub record IsExact (line : Line) (old new : Option Contents) : Type 0 where
  pub written : IsWritten line old new
  pub chosen : ChoosesHooks line old new written
  pub named : KeepsNames line old new written
  pub output : written.output ≡ named_output written.is.original written.hooks named.names
  pub info : written.is.info ≡ info_of written.is.original written.hooks
  pub told : written.told ≡ information_text written.is.original written.hooks
