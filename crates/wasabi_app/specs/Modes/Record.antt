-- The mode `record`.
use Rattle.std.specs.Prelude.{ℕ, List, [], ◌∷◌, length, codes, Bool, true, false, nat_le, option_and_then}
use Rattle.wasm_sem.specs.Types.{Module}
use Rattle.wasm_sem.specs.declared.Script.{Script}
use Rattle.static_info.specs.declared.Info.{Info}
use Rattle.app_load.specs.Kinds.{no_kinds}
use Rattle.app_load.specs.Plans.{long_trace, file, Effect, does, Plan, ends, refusing}
use Rattle.app_load.specs.Texts.{long_trace_text}
use Rattle.app_runs.specs.Recording.{recorded_bytes}
use Rattle.wasabi_app.specs.Playing.{played, ending_text, ending_finish}
use Rattle.wasabi_app.specs.ToldRuns.{told_run, with_both}
use Rattle.wasabi_app.specs.Words.{Given}
use Rattle.wasabi_app.specs.Mode.{Mode}

-- the trace is written, and the text of the run is printed
abbrev pub record_effect : (target : List ℕ) → Module → Info → Script → Effect
record_effect target m info s = record {
  kinds = no_kinds;
  events = [];
  files = file target (recorded_bytes info m s) ∷ [];
  text = ending_text m s;
  finish = ending_finish m s;
}

-- this plan, if the trace is no longer than the bound; otherwise the refusal of status 18
abbrev pub kept_within : (is_within : Bool) → (bound : ℕ) → Plan → Plan
kept_within true bound plan = plan
kept_within false bound plan = refusing long_trace (long_trace_text bound)

-- a module is run by a script, and its hook calls are read with the information
abbrev pub recorded_plan : (target : List ℕ) → (bound : ℕ) → Module → Info → Script → Plan
recorded_plan target bound m info s =
    played m s (kept_within (nat_le (length (recorded_bytes info m s)) bound) bound (ends (does (record_effect target m info s))))

abbrev pub record_plan : (subject target info script : List ℕ) → (bound : ℕ) → Plan
record_plan subject target info script bound = told_run subject info script (recorded_plan target bound)

-- the mode also needs the target
abbrev pub record_mode : Mode
record_mode = record {
  name = codes "record";
  plan = λ (g : Given). option_and_then (λ target. with_both (λ info script. record_plan g.subject target info script g.bound) g.info g.script) g.target;
}
