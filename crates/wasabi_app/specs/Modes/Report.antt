-- The mode `report`.
use Rattle.std.specs.Prelude.{ℕ, List, [], ◌++◌, codes, Bool}
use Rattle.wasm_sem.specs.Types.{Module}
use Rattle.wasm_sem.specs.declared.Script.{Script}
use Rattle.name_map.specs.declared.Names.{Names}
use Rattle.static_info.specs.declared.Info.{Info}
use Rattle.app_load.specs.declared.kinds.Kinds.{Kinds}
use Rattle.app_runs.specs.Reporting.{events_told, reports_text}
use Rattle.app_load.specs.Plans.{Effect, does, Plan, ends}
use Rattle.app_runs.specs.ToldNames.{functions_told, names_among, original_names, with_kept}
use Rattle.wasabi_app.specs.Playing.{played, ending_text, ending_finish}
use Rattle.wasabi_app.specs.ToldRuns.{named_run, with_both}
use Rattle.wasabi_app.specs.Words.{Given}
use Rattle.wasabi_app.specs.Mode.{Mode}

-- The analyses take the events of the run. Their reports are printed after the text of the run. If names are kept, the
-- names of the functions that the reports tell of follow.
abbrev pub report_effect : Kinds → (keeps : Bool) → Module → Names → Info → Script → Effect
report_effect kinds keeps m names info s = record {
  kinds = kinds;
  events = events_told info m s s.steps;
  files = [];
  text =
      with_kept keeps (ending_text m s ++ reports_text kinds (events_told info m s s.steps))
      (names_among (functions_told kinds (events_told info m s s.steps)) (original_names info names));
  finish = ending_finish m s;
}

-- a module is run by a script, and its hook calls are read with the information
abbrev pub reported_plan : Kinds → (keeps : Bool) → Module → Names → Info → Script → Plan
reported_plan kinds keeps m names info s = played m s (ends (does (report_effect kinds keeps m names info s)))

abbrev pub report_plan : (subject info script : List ℕ) → Kinds → (keeps : Bool) → Plan
report_plan subject info script kinds keeps = named_run keeps subject info script (reported_plan kinds keeps)

abbrev pub report_mode : Mode
report_mode = record {
  name = codes "report";
  plan = λ (g : Given). with_both (λ info script. report_plan g.subject info script g.kinds g.keeps) g.info g.script;
}
