-- That the warnings of the mode `taint` are those of the original's run with marks.
use Rattle.std.specs.Prelude.{◌≡◌, ℕ, ◌≤◌, List, length, ◌++◌, Option}
use Rattle.outside_io.specs.Outside.{Contents}
use Rattle.wasm_sem.specs.Types.{Module}
use Rattle.module_ast.specs.Validation.{narrow, longest_narrow_file}
use Rattle.wasm_sem.specs.declared.Script.{Script}
use Rattle.wasm_sem.specs.Execution.{hosts_in, IsScriptInRange, Links, run_of}
use Rattle.shadow_replay.specs.declared.Warning.{Warning}
use Rattle.shadow_replay.specs.Taint.{Watch}
use Rattle.shadow_replay.specs.Tagged.{tagged_of}
use Rattle.instrument.specs.Accepted.{IsAccepted}
use Rattle.instrument.specs.Output.{output}
use Rattle.instrument.specs.Same.{IsOver, IsPrefix}
use Rattle.app_load.specs.Plans.{Effect, does, LeadsTo}
use Rattle.app_load.specs.Wants.{Gives, module_read, script_read}
use Rattle.app_runs.specs.WarningTexts.{warnings_text}
use Rattle.app_runs.specs.Watching.{import_names}
use Rattle.wasabi_app.specs.Playing.{ending_text}
use Rattle.wasabi_app.specs.Tainting.{warnings_told}
use Rattle.wasabi_app.specs.Modes.Taint.{taint_plan, watch_of}
use Rattle.wasabi_app.specs.Modes.Trial.{all_hooks}
use Rattle.wasabi_app.specs.Words.{Given}

-- how many host calls a run makes in its first `steps` steps
abbrev pub hosts_made : Module → Script → (steps : ℕ) → ℕ
hosts_made m s n = hosts_in (run_of m s n)

-- what the run with marks has warned of after `steps` steps
abbrev pub warned_by : Module → Script → Watch → (steps : ℕ) → List Warning
warned_by m s w n = (tagged_of m s w n).taint.warnings

-- Within the script's steps the original makes as many host calls as its output `o` does. Whenever the original has
-- made that many, the run with marks has warned of exactly these. All warnings of the run with marks in the script's
-- steps begin with these, and are these if the output's run is over.
pub record AreTagged (m o : Module) (w : Watch) (s : Script) (warnings : List Warning) : Type 0 where
  pub reached : (n : ℕ) × (n ≤ s.steps) × (hosts_made m s n ≡ hosts_made o s s.steps)
  pub warned : (n : ℕ) → hosts_made m s n ≡ hosts_made o s s.steps → warnings ≡ warned_by m s w n
  pub begun : IsPrefix warnings (warned_by m s w s.steps)
  pub whole : IsOver o s s.steps → warnings ≡ warned_by m s w s.steps

-- all this holds for each accepted file and each script that links with its module, whatever is watched
abbrev pub WarningsAreTagged : Type 0
WarningsAreTagged =
    (file : List ℕ) (m : Module) → IsAccepted file m → length file ≤ longest_narrow_file
    → (w : Watch) (s : Script) → IsScriptInRange s → Links m s
    → AreTagged m (output m all_hooks) w s (warnings_told m w s)

-- What is printed: the text of the output's run, and after that these warnings.
pub record PrintsTagged (held : Option Contents) (g : Given) (script_name : List ℕ) (effect : Effect) : Type 0 where
  pub original : Module
  pub script : Script
  pub subject : Gives held (module_read g.subject longest_narrow_file narrow) original
  pub run_by : Gives held (script_read script_name) script
  pub warnings : List Warning
  pub tagged : AreTagged original (output original all_hooks) (watch_of g original) script warnings
  pub text : effect.text ≡ ending_text (output original all_hooks) script ++ warnings_text (import_names original.imports) warnings

-- all this holds for each command whose plan leads to an effect
abbrev pub TaintsTell : Type 0
TaintsTell =
    (held : Option Contents) (g : Given) (script : List ℕ) (effect : Effect) → LeadsTo held (taint_plan g script) (does effect)
    → PrintsTagged held g script effect
