-- What one command hands to the next: the modes that run take what `instrument` wrote.
use Rattle.std.specs.Prelude.{◌≡◌, ℕ, ◌≤◌, List, length, codes, Option, Some}
use Rattle.outside_io.specs.Outside.{Contents, ShelfState, PrintState}
use Rattle.wasm_sem.specs.Types.{Module, Selection}
use Rattle.module_ast.specs.Validation.{longest_file}
use Rattle.analyses.specs.Tools.{ToolState}
use Rattle.command_line.specs.Lines.{Line}
use Rattle.app_load.specs.Ends.{Ends}
use Rattle.app_load.specs.Plans.{Effect}
use Rattle.wasabi_app.specs.Composing.{ReportsOriginal}
use Rattle.wasabi_app.specs.Modes.{plan_of}
use Rattle.wasabi_app.specs.Promised.{IsWorkDone, Made, PrintsReports}
use Rattle.wasabi_app.specs.ReadBack.{IsOfScript}
use Rattle.wasabi_app.specs.Words.{Asks, Given}
use Rattle.wasabi_app.specs.Written.{IsExact}

-- words ask for a mode with this script, and for what stands under the target of the line
abbrev pub AsksForOutput : Line → (words : List (List ℕ)) → (mode : List ℕ) → Given → (script : List ℕ) → Type 0
AsksForOutput line words mode g script = Asks words mode g × (line.out ≡ Some g.subject) × (g.script ≡ Some script)

-- and for the information of the line, which is under this name
abbrev pub AsksForBoth : Line → (words : List (List ℕ)) → (mode : List ℕ) → Given → (info script : List ℕ) → Type 0
AsksForBoth line words mode g info script = AsksForOutput line words mode g script × (line.info ≡ Some info) × (g.info ≡ Some info)

-- the reports on a run that are on the selected events of this module
abbrev pub ReportsOn : Module → Selection → (held : Option Contents) → Given → (info script : List ℕ) → Effect → Type 0
ReportsOn m hooks held g info script e =
    (prints : PrintsReports held g info script e) × ReportsOriginal m hooks prints.info prints.subject prints.script prints.script.steps

-- A command took what `instrument` wrote with a line, by its mode. If it ends with 3, it does so because of its script, and it
-- never ends with 6, 7, 8 or 16. Its reports, if it was a report, are those on the original's selected events.
pub record TakesWritten (line : Line) (old new : Option Contents) (made : IsExact line old new) (contents : Contents) (words : List (List ℕ))
    (first last : ShelfState) (was is : List ToolState) (before after : PrintState) (status : ℕ) : Type 0 where
  pub run_by : (g : Given) (script : List ℕ) → AsksForOutput line words (codes "run") g script → IsOfScript contents script status
  pub reported : (g : Given) (info script : List ℕ) → AsksForBoth line words (codes "report") g info script → length made.written.told ≤ longest_file
      → IsOfScript contents script status
      × (IsWorkDone status → Made (ReportsOn made.written.is.original made.written.hooks first.contents g info script) first last was is before after status)
  pub recorded : (g : Given) (target info script : List ℕ) → AsksForBoth line words (codes "record") g info script → g.target ≡ Some target
      → length made.written.told ≤ longest_file → IsOfScript contents script status
  pub treed : (g : Given) (info script : List ℕ) → AsksForBoth line words (codes "tree") g info script → length made.written.told ≤ longest_file
      → IsOfScript contents script status

-- After a command whose clause `exact` says what it wrote, a later one that begins with the same contents takes it.
abbrev pub WrittenIsTaken : Type 0
WrittenIsTaken =
    (line : Line) (old : Option Contents) (left first last : ShelfState) (contents : Contents) (made : IsExact line old left.contents)
    → left.contents ≡ Some contents → first.contents ≡ Some contents
    → (words : List (List ℕ)) (was is : List ToolState) (before after : PrintState) (status : ℕ) → Ends (plan_of words) first last was is before after status
    → TakesWritten line old left.contents made contents words first last was is before after status
