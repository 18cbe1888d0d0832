-- How the trial of a module ends.
use Rattle.std.specs.Prelude.{◌≡◌, ℕ, ◌≤◌, List, length, Result, IfOk, OnOk, OnErr}
use Rattle.wasm_sem.specs.Types.{Module}
use Rattle.module_ast.specs.Binary.{module_bytes, Fits, IsWithin}
use Rattle.module_ast.specs.Validation.{narrow, IsValid, longest_narrow_file}
use Rattle.wasm_sem.specs.Execution.{summary_of, IsFree}
use Rattle.static_info.specs.declared.Info.{Info}
use Rattle.static_info.specs.Info.{info_of}
use Rattle.instrument.specs.Output.{output}
use Rattle.report.specs.Text.{events_line}
use Rattle.analyses.specs.Tools.{ToolState}
use Rattle.app_load.specs.Feeding.{AreFedPart, fed}
use Rattle.app_load.specs.Kinds.{all_reports}
use Rattle.app_load.specs.declared.printing.Printed.{Printed}
use Rattle.app_load.specs.Plans.{finish_status}
use Rattle.app_runs.specs.Reporting.{events_told}
use Rattle.wasabi_app.specs.Playing.{finish_of}
use Rattle.wasabi_app.specs.Modes.Trial.{all_hooks, pair_front, runs_text, told_of_run, trial_script}

-- A module that is tried is valid, within the limits of a module that gets hooks, of its sizes, and without a hook.
pub record IsTriable (m : Module) : Type 0 where
  pub valid : IsValid m
  pub limits : IsWithin narrow m
  pub fits : Fits m
  pub short : length (module_bytes m) ≤ longest_narrow_file
  pub free : IsFree m

-- what the answer tells of a run of an output, after the text on its original; the hook calls are read with the
-- information
pub record IsTold (number steps : ℕ) (front : List ℕ) (o : Module) (info : Info) (told : Printed) : Type 0 where
  pub status : told.status ≡ finish_status (finish_of (summary_of o (trial_script number steps) steps))
  pub text : told.text.items ≡ runs_text front (told_of_run number steps o) (events_line (events_told info o (trial_script number steps) steps))

-- The run is told, and the analyses took its events. If memory ended, the analyses took the first of these events.
pub record IsRun {E : Type 0} (number steps : ℕ) (front : List ℕ) (o : Module) (info : Info) (was is : List ToolState) (result : Result Printed E) : Type 0 where
  pub told : IfOk result (IsTold number steps front o info)
  pub fed : OnOk result (is ≡ fed all_reports (events_told info o (trial_script number steps) steps) was)
  pub part : OnErr result (AreFedPart all_reports (events_told info o (trial_script number steps) steps) was is)

-- a run of this kind, for the output of a module with all hooks
abbrev pub AreTried : {E : Type 0} (number first second : ℕ) → Module → (was is : List ToolState) → Result Printed E → Type 0
AreTried number first second m = IsRun number second (pair_front number first m) (output m all_hooks) (info_of m all_hooks)
