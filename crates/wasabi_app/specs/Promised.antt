-- What a reader of the program's contract asks of the modes that run, if their work was done.
use Rattle.std.specs.Prelude.{◌≡◌, ℕ, ◌⊎◌, List, ◌++◌, codes, Bool, true, Option, Some}
use Rattle.outside_io.specs.Outside.{Contents, Printed, PrintedPart}
use Rattle.wasm_sem.specs.Types.{Module}
use Rattle.module_ast.specs.Validation.{wide, longest_file}
use Rattle.wasm_sem.specs.declared.Script.{Script}
use Rattle.wasm_sem.specs.Execution.{Links}
use Rattle.name_map.specs.declared.Names.{Names}
use Rattle.static_info.specs.declared.Info.{Info}
use Rattle.static_info.specs.Info.{info_of}
use Rattle.static_info.specs.Json.{HoldInfo}
use Rattle.wasm_sem.specs.Types.{Selection}
use Rattle.call_tree.specs.Counts.{PathCounts, nodes_of}
use Rattle.call_tree.specs.Paths.{paths, HasBadEnd}
use Rattle.std.specs.FinMap.{get}
use Rattle.analyses.specs.Tools.{ToolState}
use Rattle.app_load.specs.Statuses.{status_number, class_of, of_effects}
use Rattle.app_load.specs.Feeding.{fed}
use Rattle.app_load.specs.Plans.{finish_status, Effect}
use Rattle.outside_io.specs.Outside.{ShelfState, PrintState}
use Rattle.app_load.specs.Wants.{Gives, module_read, named_read, info_read, script_read}
use Rattle.app_load.specs.Writing.{WroteAll}
use Rattle.app_runs.specs.Treeing.{tells_brackets, tree_items, nodes_text}
use Rattle.wasabi_app.specs.Composing.{ReportsOriginal, TrialTells}
use Rattle.wasabi_app.specs.KeptNames.{IsOutput}
use Rattle.wasabi_app.specs.Modes.Report.{report_effect}
use Rattle.wasabi_app.specs.Modes.Trial.{first_steps, second_steps, trial_number, pair_effect}
use Rattle.module_gen.specs.Made.{made}
use Rattle.wasabi_app.specs.Nesting.{times_among}
use Rattle.wasabi_app.specs.Playing.{ending_text, ending_finish}
use Rattle.wasabi_app.specs.Replaying.{IsReplayed}
use Rattle.wasabi_app.specs.Tagging.{PrintsTagged}
use Rattle.wasabi_app.specs.TrialEnds.{TrialEnds}
use Rattle.wasabi_app.specs.Words.{Asks, Given}

-- ---- work

-- the status is of an effect that was made: 0, 12 or 13; or 15, if the text of the effect could not be printed
abbrev pub IsWorkDone : (status : ℕ) → Type 0
IsWorkDone status = (class_of status ≡ of_effects) ⊎ (status ≡ 15)

-- The text of the effect is printed, and the status is that of the effect. At 15 only a part of the text is printed.
abbrev pub WasPrinted : Effect → (status : ℕ) → (before after : Option (List ℕ)) → Type 0
WasPrinted e status before after =
    ((status ≡ status_number (finish_status e.finish)) × Printed e.text before after) ⊎ ((status ≡ 15) × PrintedPart e.text before after)

-- what the modes do outside: the files of an effect are written, its events are taken, and its text is printed
pub record WasMade (e : Effect) (old new : ShelfState) (was is : List ToolState) (before after : PrintState) (status : ℕ) : Type 0 where
  pub files : WroteAll e.files old.contents new.contents
  pub taken : is ≡ fed e.kinds e.events was
  pub printed : WasPrinted e status before.text after.text

-- an effect of which this holds was made
abbrev pub Made : (Effect → Type 0) → (old new : ShelfState) → (was is : List ToolState) → (before after : PrintState) → (status : ℕ) → Type 0
Made Holds old new was is before after status = (e : Effect) × Holds e × WasMade e old new was is before after status

-- ---- the mode `report`

-- The subject, its names if they are kept, the information and the script were read. The reports on the run's events
-- are printed after its text. If the subject's bytes are the output of an accepted file, and the information's bytes
-- hold the information on its original, then these events are the original's selected ones.
pub record PrintsReports (held : Option Contents) (g : Given) (info_name script_name : List ℕ) (effect : Effect) : Type 0 where
  pub subject : Module
  pub carried : Names
  pub info : Info
  pub script : Script
  pub subject_there : Gives held (named_read g.subject longest_file wide g.keeps) (subject, carried)
  pub info_there : Gives held (info_read info_name subject) info
  pub script_there : Gives held (script_read script_name) script
  pub links : Links subject script
  pub is : effect ≡ report_effect g.kinds g.keeps subject carried info script
  pub of_output : (file : List ℕ) (hooks : Selection) (keeps : Bool) (has : IsOutput file hooks keeps subject_there.bytes)
      → HoldInfo info_there.bytes (info_of has.original hooks) → ReportsOriginal has.original hooks info subject script script.steps

abbrev pub IsReported : (words : List (List ℕ)) → (old new : ShelfState) → (was is : List ToolState) → (before after : PrintState) → (status : ℕ) → Type 0
IsReported words old new was is before after status =
    (g : Given) (info script : List ℕ) → Asks words (codes "report") g → g.info ≡ Some info → g.script ≡ Some script → IsWorkDone status
    → Made (PrintsReports old.contents g info script) old new was is before after status

-- ---- the mode `record`

abbrev pub IsRecorded : (words : List (List ℕ)) → (old new : ShelfState) → (was is : List ToolState) → (before after : PrintState) → (status : ℕ) → Type 0
IsRecorded words old new was is before after status =
    (g : Given) (target info script : List ℕ) → Asks words (codes "record") g → g.target ≡ Some target → g.info ≡ Some info
    → g.script ≡ Some script → IsWorkDone status → Made (IsReplayed old.contents g.subject target info script) old new was is before after status

-- ---- the mode `tree`

-- The subject, the information and the script were read, and no end in the run is bad. After the run's text come the
-- nodes of a count. In this count each path of calls that came has the number of its begins, and no other path has a
-- number.
pub record PrintsTree (held : Option Contents) (g : Given) (info_name script_name : List ℕ) (effect : Effect) : Type 0 where
  pub subject : Module
  pub info : Info
  pub script : Script
  pub subject_there : Gives held (module_read g.subject longest_file wide) subject
  pub info_there : Gives held (info_read info_name subject) info
  pub script_there : Gives held (script_read script_name) script
  pub links : Links subject script
  pub told : tells_brackets info ≡ true
  pub nested : HasBadEnd (tree_items subject info script) → ⊥
  pub counts : PathCounts
  pub counted : (path : List ℕ) → get counts path ≡ times_among path (paths (tree_items subject info script))
  pub text : effect.text ≡ ending_text subject script ++ nodes_text (nodes_of counts)
  pub finish : effect.finish ≡ ending_finish subject script

abbrev pub IsTreed : (words : List (List ℕ)) → (old new : ShelfState) → (was is : List ToolState) → (before after : PrintState) → (status : ℕ) → Type 0
IsTreed words old new was is before after status =
    (g : Given) (info script : List ℕ) → Asks words (codes "tree") g → g.info ≡ Some info → g.script ≡ Some script → IsWorkDone status
    → Made (PrintsTree old.contents g info script) old new was is before after status

-- ---- the mode `trial`

-- Both runs are told, and both end. The events of the second run tell of the first run as `TrialTells` says.
pub record PrintsTrial (number : ℕ) (effect : Effect) : Type 0 where
  pub is : effect ≡ pair_effect number first_steps second_steps (made number)
  pub ends : TrialEnds number
  pub tells : TrialTells number

abbrev pub IsTried : (words : List (List ℕ)) → (old new : ShelfState) → (was is : List ToolState) → (before after : PrintState) → (status : ℕ) → Type 0
IsTried words old new was is before after status =
    (g : Given) (number : ℕ) → Asks words (codes "trial") g → trial_number g.subject ≡ Some number → IsWorkDone status
    → Made (PrintsTrial number) old new was is before after status

-- ---- the mode `taint`

abbrev pub IsWarnedOf : (words : List (List ℕ)) → (old new : ShelfState) → (was is : List ToolState) → (before after : PrintState) → (status : ℕ) → Type 0
IsWarnedOf words old new was is before after status =
    (g : Given) (script : List ℕ) → Asks words (codes "taint") g → g.script ≡ Some script → IsWorkDone status
    → Made (PrintsTagged old.contents g script) old new was is before after status
