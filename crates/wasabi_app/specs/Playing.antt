-- A module that is linked with a script and run.
use Rattle.std.specs.Prelude.{ℕ, List, cond, Option, Some, None}
use Rattle.wasm_sem.specs.Types.{Module}
use Rattle.wasm_sem.specs.declared.Script.{Script}
use Rattle.wasm_sem.specs.Link as linking
use Rattle.wasm_sem.specs.Execution.{link, Summary, summary_of}
use Rattle.app_runs.specs.RunTexts.{has_trapped, run_text}
use Rattle.app_runs.specs.Linking.{link_reason, link_text}
use Rattle.app_load.specs.Plans.{Finish, done, trapped, unfinished, Plan, refusing}

-- this plan, if the link is not refused; if it is, the refusal with its line
abbrev pub linked : Script → Option linking.Refusal → Plan → Plan
linked s (Some why) plan = refusing (link_reason why) (link_text s.calls why)
linked s None plan = plan

-- this plan, if the module and the script link
abbrev pub played : Module → Script → Plan → Plan
played m s plan = linked s (link m s) plan

-- how a run ended
abbrev pub finish_of : Summary → Finish
finish_of s = cond s.running unfinished (cond (has_trapped s.start s.calls) trapped done)

-- how far the run is after the script's steps, and its text and its end
abbrev pub ending_of : Module → Script → Summary
ending_of m s = summary_of m s s.steps

abbrev pub ending_text : Module → Script → List ℕ
ending_text m s = run_text s.calls (ending_of m s)

abbrev pub ending_finish : Module → Script → Finish
ending_finish m s = finish_of (ending_of m s)
