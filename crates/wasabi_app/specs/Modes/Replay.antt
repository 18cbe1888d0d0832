-- The mode `replay`.
use Rattle.std.specs.Prelude.{ℕ, List, [], codes, Some}
use Rattle.wasm_sem.specs.Types.{Event}
use Rattle.app_load.specs.declared.kinds.Kinds.{Kinds}
use Rattle.app_load.specs.Plans.{done, Effect, does, Plan, reads, ends}
use Rattle.app_load.specs.Wants.{trace_read}
use Rattle.app_runs.specs.Reporting.{reports_text}
use Rattle.wasabi_app.specs.Words.{Given}
use Rattle.wasabi_app.specs.Mode.{Mode}

-- the analyses take the events of a trace, and their reports are printed
abbrev pub replay_effect : Kinds → List Event → Effect
replay_effect kinds es = record { kinds = kinds; events = es; files = []; text = reports_text kinds es; finish = done }

abbrev pub replayed_plan : Kinds → List Event → Plan
replayed_plan kinds es = ends (does (replay_effect kinds es))

-- the subject is read as a trace
abbrev pub replay_plan : (subject : List ℕ) → Kinds → Plan
replay_plan subject kinds = reads (trace_read subject) (replayed_plan kinds)

abbrev pub replay_mode : Mode
replay_mode = record { name = codes "replay"; plan = λ (g : Given). Some (replay_plan g.subject g.kinds) }
