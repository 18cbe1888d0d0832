-- The warnings on a module that runs with hooks.
use Rattle.std.specs.Prelude.{List, [], Option, Some, None}
use Rattle.wasm_sem.specs.Types.{Module}
use Rattle.wasm_sem.specs.declared.Script.{Script}
use Rattle.shadow_replay.specs.declared.Warning.{Warning}
use Rattle.shadow_replay.specs.Laws.{tainted_shadow_after}
use Rattle.shadow_replay.specs.Taint.{Watch}
use Rattle.shadow_replay.specs.Tainted.{TaintedShadow}
use Rattle.static_info.specs.Info.{info_of}
use Rattle.instrument.specs.Output.{output}
use Rattle.app_runs.specs.Reporting.{items_told}
use Rattle.wasabi_app.specs.Modes.Trial.{all_hooks}

abbrev pub warnings_in : Option TaintedShadow → List Warning
warnings_in None = []
warnings_in (Some sh) = sh.marks.taint.warnings

-- the warnings on the items that a module's output with all hooks tells in the script's steps
abbrev pub warnings_told : Module → Watch → Script → List Warning
warnings_told m w s = warnings_in (tainted_shadow_after m s w (items_told (info_of m all_hooks) (output m all_hooks) s s.steps))
