-- How a run that a shadow follows ends.
use Rattle.std.specs.Prelude.{◌≡◌, ℕ, ◌≤◌, List, length, map, None, Some, Err, string_bytes}
use Rattle.wasm_sem.specs.Types.{Module}
use Rattle.module_ast.specs.Binary.{module_bytes, Fits, IsWithin}
use Rattle.module_ast.specs.Validation.{IsComplete, narrow, IsValid, longest_narrow_file}
use Rattle.wasm_sem.specs.declared.Script.{Script}
use Rattle.wasm_sem.specs.Execution.{IsFree}
use Rattle.static_info.specs.declared.Info.{Info}
use Rattle.static_info.specs.Belongs.{Belongs}
use Rattle.static_info.specs.Form.{IsWellFormed}
use Rattle.static_info.specs.Info.{info_of}
use Rattle.shadow_replay.specs.Taint.{Watch}
use Rattle.instrument.specs.Output.{output}
use Rattle.analyses.specs.Tools.{ToolState}
use Rattle.app_load.specs.declared.printing.Printed.{Printed}
use Rattle.app_load.specs.declared.printing.Refusal.{Refusal}
use Rattle.app_load.specs.Outcomes.{Yields}
use Rattle.app_load.specs.Plans.{Plan, finish_status}
use Rattle.outside_io.specs.Outside.{ShelfState}
use Rattle.app_runs.specs.Watching.{import_names, listed, numbers_named}
use Rattle.wasabi_app.specs.declared.taint_mode.Watched.{Watched}
use Rattle.wasabi_app.specs.Playing.{ending_finish}
use Rattle.wasabi_app.specs.Modes.Taint.{unknown_in, known, taint_text}
use Rattle.wasabi_app.specs.Modes.Trial.{all_hooks}
use Rattle.wasabi_app.specs.Words.{Given}

-- what the mode reads a subject as: a valid module within the limits of modules that get hooks, of its sizes
pub record IsFollowable (m : Module) : Type 0 where
  pub valid : IsValid m
  pub complete : IsComplete m
  pub limits : IsWithin narrow m
  pub fits : Fits m
  pub short : length (module_bytes m) ≤ longest_narrow_file

-- ---- what is watched

-- each name in the lists is the name of an import
abbrev pub AreKnown : Given → Module → Type 0
AreKnown g m = unknown_in g (import_names m.imports) ≡ None

-- a name of the lists is not known, and the refusal is that of every plan that follows
abbrev pub IsUnknown : Given → Module → Refusal → Type 0
IsUnknown g m refusal =
    (plan : Plan) (at : ShelfState) (tools : List ToolState)
    → Yields (Some (known (unknown_in g (import_names m.imports)) plan)) at at tools tools (Err refusal)

-- the imports have these names, and those imports whose names are in the lists are watched
pub record IsWatchedOf (g : Given) (names : List (List ℕ)) (watched : Watched) : Type 0 where
  pub named : map string_bytes watched.names.items ≡ names
  pub sources : watched.sources.items ≡ numbers_named (listed g.sources) 0 names
  pub sinks : watched.sinks.items ≡ numbers_named (listed g.sinks) 0 names

abbrev pub IsWatched : Given → Module → Watched → Type 0
IsWatched g m watched = IsWatchedOf g (import_names m.imports) watched

abbrev pub watch_in : Watched → Watch
watch_in watched = record { sources = watched.sources.items; sinks = watched.sinks.items }

-- ---- the output

-- a module without hooks, its output with all hooks, and the information on it
pub record ArePaired (m o : Module) (info : Info) : Type 0 where
  pub followable : IsFollowable m
  pub free : IsFree m
  pub is : o ≡ output m all_hooks
  pub information : info ≡ info_of m all_hooks
  pub formed : IsWellFormed info
  pub belongs : Belongs info o

-- what the answer tells of the output's run by the script
pub record IsWarned (w : Watch) (m : Module) (s : Script) (told : Printed) : Type 0 where
  pub status : told.status ≡ finish_status (ending_finish (output m all_hooks) s)
  pub text : told.text.items ≡ taint_text w m s
