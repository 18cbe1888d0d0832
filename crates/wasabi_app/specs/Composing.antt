-- What the reports on an output, and a trial, tell of the original.
use Rattle.std.specs.Prelude.{◌≡◌, ℕ, List, Bool, true, IsTrue, is_some, All, map}
use Rattle.wasm_sem.specs.Types.{Module, Event, Selection}
use Rattle.module_ast.specs.Binary.{Gram}
use Rattle.module_ast.specs.Validation.{wide}
use Rattle.hook_select.specs.Events.{group_of}
use Rattle.wasm_sem.specs.declared.Script.{Script}
use Rattle.wasm_sem.specs.Execution.{events_in, IsScriptInRange, Links}
use Rattle.name_map.specs.declared.Names.{Names}
use Rattle.static_info.specs.declared.Info.{Info}
use Rattle.static_info.specs.Belongs.{Belongs}
use Rattle.static_info.specs.Info.{info_of}
use Rattle.static_info.specs.Json.{HoldInfo}
use Rattle.instrument.specs.Same.{IsPrefix, IsOver, SameRuns, shown_so_far}
use Rattle.analyses.specs.declared.Kind.{Kind}
use Rattle.analyses.specs.Book.{book}
use Rattle.analyses.specs.Tools.{ToolState}
use Rattle.app_load.specs.declared.kinds.Kinds.{Kinds}
use Rattle.app_load.specs.Feeding.{fed, fresh_tools}
use Rattle.app_load.specs.Files.{IsFit}
use Rattle.app_load.specs.Kinds.{all_reports, every_kind}
use Rattle.app_load.specs.Wants.{AreKept}
use Rattle.module_gen.specs.Made.{made}
use Rattle.app_runs.specs.Reporting.{events_told, reports_text}
use Rattle.app_runs.specs.ToldNames.{original_names}
use Rattle.wasabi_app.specs.KeptNames.{IsOutput}
use Rattle.wasabi_app.specs.Modes.Trial.{all_hooks, first_steps, second_steps, told_of_run, trial_events, trial_output, trial_script}

-- the events of the selected groups that the original shows in `steps` steps
abbrev pub selected_events : Module → Selection → Script → (steps : ℕ) → List Event
selected_events m hooks s steps = events_in (shown_so_far m hooks s steps)

-- If the run of the output is over, the reports on the output are those on the original's selected events. The events
-- of the output are in any case the first of these, and none of them is a stray.
pub record ReportsOriginal (m : Module) (hooks : Selection) (info : Info) (o : Module) (s : Script) (steps : ℕ) : Type 0 where
  pub whole : IsOver o s steps → (kinds : Kinds) → reports_text kinds (events_told info o s steps) ≡ reports_text kinds (selected_events m hooks s steps)
  pub begun : IsPrefix (events_told info o s steps) (selected_events m hooks s steps)
  pub no_stray : All (λ (e : Event). IsTrue (is_some (group_of e))) (events_told info o s steps)

-- all this holds for a module whose runs are the same as those of the original
abbrev pub SameRunsReport : Type 0
SameRunsReport =
    (m : Module) (hooks : Selection) (o : Module) (s : Script) → SameRuns m hooks o s
    → (steps : ℕ) → ReportsOriginal m hooks (info_of m hooks) o s steps

-- All this holds for the output of each accepted file, with names or without, read as a module, and bytes that hold the
-- information on its original, read as information. This information belongs to the output, and the output links with
-- each script with which the original links.
abbrev pub OutputsReport : Type 0
OutputsReport =
    (file : List ℕ) (hooks : Selection) (keeps : Bool) (written : List ℕ) (has : IsOutput file hooks keeps written) (o : Module) → IsFit wide written o
    → (told : List ℕ) (info : Info) → HoldInfo told (info_of has.original hooks) → HoldInfo told info
    → (s : Script) → IsScriptInRange s → Links has.original s
    → Belongs info o × Links o s × ((steps : ℕ) → ReportsOriginal has.original hooks info o s steps)

-- The names that a report tells of an output that was written with names are those that the file has.
abbrev pub KeptNamesComeBack : Type 0
KeptNamesComeBack =
    (file : List ℕ) (hooks : Selection) (written : List ℕ) (has : IsOutput file hooks true written) (o : Module) → Gram written o
    → (carried : Names) → AreKept true written o carried → original_names (info_of has.original hooks) carried ≡ has.names.functions

-- A trial: if the output's run is over, its events are all events of the original, and each analysis that was fresh
-- holds their book. In any case its events are the first of the original's, and none of them is a stray. If both runs
-- are over, their texts are equal.
pub record TrialTells (number : ℕ) : Type 0 where
  pub whole : IsOver (trial_output number) (trial_script number second_steps) second_steps
      → trial_events number ≡ selected_events (made number) all_hooks (trial_script number second_steps) second_steps
  pub books : IsOver (trial_output number) (trial_script number second_steps) second_steps
      → map (λ (t : ToolState). t.book) (fed all_reports (trial_events number) fresh_tools)
      ≡ map (λ (k : Kind). book k (selected_events (made number) all_hooks (trial_script number second_steps) second_steps)) every_kind
  pub begun : IsPrefix (trial_events number) (selected_events (made number) all_hooks (trial_script number second_steps) second_steps)
  pub no_stray : All (λ (e : Event). IsTrue (is_some (group_of e))) (trial_events number)
  pub texts : IsOver (made number) (trial_script number first_steps) first_steps
      → IsOver (trial_output number) (trial_script number second_steps) second_steps
      → told_of_run number first_steps (made number) ≡ told_of_run number second_steps (trial_output number)

-- all this holds for each number
abbrev pub TrialsTell : Type 0
TrialsTell = (number : ℕ) → TrialTells number
