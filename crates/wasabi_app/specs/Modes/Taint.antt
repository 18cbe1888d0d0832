-- The mode `taint`: a module runs with all hooks. A shadow of the module follows marked values from sources to sinks.
use Rattle.std.specs.Prelude.{ℕ, List, ◌++◌, codes, Option, Some, None, option_map}
use Rattle.wasm_sem.specs.Types.{Module}
use Rattle.module_ast.specs.Validation.{narrow, longest_file, longest_narrow_file}
use Rattle.wasm_sem.specs.declared.Script.{Script}
use Rattle.instrument.specs.Output.{output}
use Rattle.shadow_replay.specs.Taint.{Watch}
use Rattle.app_load.specs.Plans.{no_import, Plan, reads, printing, refusing}
use Rattle.app_load.specs.Wants.{module_read, script_read}
use Rattle.app_runs.specs.WarningTexts.{warnings_text}
use Rattle.app_runs.specs.Watching.{import_names, listed, first_unknown, numbers_named}
use Rattle.wasabi_app.specs.Making.{output_length}
use Rattle.wasabi_app.specs.Playing.{played, ending_text, ending_finish}
use Rattle.wasabi_app.specs.Tainting.{warnings_told}
use Rattle.wasabi_app.specs.Texts.{no_import_text}
use Rattle.wasabi_app.specs.Words.{Given}
use Rattle.wasabi_app.specs.Mode.{Mode}
use Rattle.wasabi_app.specs.Modes.Instrument.{hooked}
use Rattle.wasabi_app.specs.Modes.Trial.{all_hooks}

-- the numbers of all imports whose name is in a list
abbrev pub imports_listed : Option (List ℕ) → Module → List ℕ
imports_listed list m = numbers_named (listed list) 0 (import_names m.imports)

abbrev pub watch_of : Given → Module → Watch
watch_of g m = record { sources = imports_listed g.sources m; sinks = imports_listed g.sinks m }

-- the first value, if there is one; otherwise the second
abbrev pub or_then : Option (List ℕ) → Option (List ℕ) → Option (List ℕ)
or_then None other = other
or_then (Some name) other = Some name

abbrev pub unknown_in : Given → (names : List (List ℕ)) → Option (List ℕ)
unknown_in g names = or_then (first_unknown names (listed g.sources)) (first_unknown names (listed g.sinks))

-- this plan, if no name is unknown; otherwise the refusal of status 20
abbrev pub known : (unknown : Option (List ℕ)) → Plan → Plan
known None plan = plan
known (Some name) plan = refusing no_import (no_import_text name)

-- the text of the output's run, and after that the warnings
abbrev pub taint_text : Watch → Module → Script → List ℕ
taint_text w m s = ending_text (output m all_hooks) s ++ warnings_text (import_names m.imports) (warnings_told m w s)

-- the output is run by the script
abbrev pub ran_plan : Watch → Module → Script → Plan
ran_plan w m s = played (output m all_hooks) s (printing (taint_text w m s) (ending_finish (output m all_hooks) s))

abbrev pub warned_plan : (script : List ℕ) → Watch → Module → Plan
warned_plan script w m = reads (script_read script) (ran_plan w m)

-- the sources and then the sinks are found, and the module gets hooks
abbrev pub followed_plan : Given → (script : List ℕ) → Module → Plan
followed_plan g script m =
    known (unknown_in g (import_names m.imports))
    (hooked g.subject m (output_length m all_hooks) longest_file (warned_plan script (watch_of g m) m))

abbrev pub taint_plan : Given → (script : List ℕ) → Plan
taint_plan g script = reads (module_read g.subject longest_narrow_file narrow) (followed_plan g script)

-- the mode needs the script
abbrev pub taint_mode : Mode
taint_mode = record { name = codes "taint"; plan = λ (g : Given). option_map (taint_plan g) g.script }
