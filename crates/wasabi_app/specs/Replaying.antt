-- That what `record` wrote replays as the end of the report.
use Rattle.std.specs.Prelude.{◌≡◌, ℕ, ◌≤◌, List, [], ◌∷◌, ◌++◌, length, false, Option, Some}
use Rattle.outside_io.specs.Outside.{Contents, Holds, WhereKnown}
use Rattle.wasm_sem.specs.Types.{Module, Event}
use Rattle.module_ast.specs.Validation.{IsComplete, wide, IsValid, longest_file}
use Rattle.module_ast.specs.Binary.{IsWithin}
use Rattle.wasm_sem.specs.declared.Script.{Script}
use Rattle.wasm_sem.specs.Execution.{IsScriptInRange, Links}
use Rattle.static_info.specs.declared.Info.{Info}
use Rattle.static_info.specs.Belongs.{Belongs}
use Rattle.static_info.specs.Form.{IsWellFormed}
use Rattle.trace_file.specs.Files.{trace_bytes, IsTrace}
use Rattle.app_load.specs.declared.kinds.Kinds.{Kinds}
use Rattle.app_load.specs.Plans.{file, Effect, Ending, does, Plan, LeadsTo}
use Rattle.app_runs.specs.Reporting.{events_told}
use Rattle.wasabi_app.specs.Modes.Record.{record_plan}
use Rattle.wasabi_app.specs.Modes.Replay.{replay_effect, replay_plan}
use Rattle.wasabi_app.specs.Modes.Report.{report_plan}
use Rattle.wasabi_app.specs.Words.{Given, given}

-- `steps` steps of a run tell events, which are read with information that belongs to the module. These events are
-- those of their trace file, if the file is no longer than a file that is read.
abbrev pub EventsHaveTrace : Type 0
EventsHaveTrace =
    (info : Info) (m : Module) (s : Script) → IsWellFormed info → Belongs info m → IsValid m → IsComplete m → IsWithin wide m
    → IsScriptInRange s → Links m s
    → (steps : ℕ) → length (trace_bytes (events_told info m s steps)) ≤ longest_file
    → IsTrace (trace_bytes (events_told info m s steps)) (events_told info m s steps)

-- ---- what a reader of the program's contract asks of the mode `record`

-- the plan leads to this effect, and to nothing else if the contents of the shelf are known
abbrev pub LeadsOnlyTo : Option Contents → Plan → Effect → Type 0
LeadsOnlyTo held plan e =
    LeadsTo held plan (does e) × WhereKnown held (λ contents. (other : Ending) → LeadsTo (Some contents) plan other → other ≡ does e)

-- what was told of a run, and after that what is replayed
abbrev pub with_replay : (recorded replayed : Effect) → Effect
with_replay recorded replayed = record {
  kinds = replayed.kinds;
  events = replayed.events;
  files = [];
  text = recorded.text ++ replayed.text;
  finish = recorded.finish;
}

-- What was recorded is the trace of some events. If its bytes are found, under whatever name, exactly these events are
-- replayed. A report without names, in the place of the recording, takes these events too, and prints the text of the
-- recording and after that the text of the replay. Both hold for each set of kinds.
pub record IsReplayed (held : Option Contents) (subject target info script : List ℕ) (recorded : Effect) : Type 0 where
  pub events : List Event
  pub trace : List ℕ
  pub written : recorded.files ≡ file target trace ∷ []
  pub spelled : IsTrace trace events
  pub replays : (kinds : Kinds) (found : Option Contents) (name : List ℕ) → Holds found name trace
      → LeadsOnlyTo found (replay_plan name kinds) (replay_effect kinds events)
  pub reports : (kinds : Kinds) → LeadsOnlyTo held (report_plan subject info script kinds false) (with_replay recorded (replay_effect kinds events))

-- all this holds for each command that records
abbrev pub RecordingsReplay : Type 0
RecordingsReplay =
    (words : List (List ℕ)) (g : Given) (target info script : List ℕ) → given words ≡ Some g
    → (held : Option Contents) (recorded : Effect) → LeadsTo held (record_plan g.subject target info script g.bound) (does recorded)
    → IsReplayed held g.subject target info script recorded
