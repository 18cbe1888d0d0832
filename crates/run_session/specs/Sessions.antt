-- The answers of a session: whether module and script link, what a turn does, and what came of the run.
use Rattle.std.specs.Prelude.{◌≡◌, ℕ, List, [], ◌∷◌, ◌++◌, Result, Ok, Err, Option, Some, Bool, true, false, ◌&&◌, cond, nat_eq, is_some, is_none}
use Rattle.std.specs.declared.alloc.AllocError.{AllocError}
use Rattle.wasm_sem.specs.Types.{Module}
use Rattle.wasm_sem.specs.declared.Script.{Script}
use Rattle.wasm_sem.specs.declared.Answer.{Answer}
use Rattle.wasm_sem.specs.declared.Answer.TheVariants.{Unfinished}
use Rattle.wasm_sem.specs.declared.Turn.{Turn}
use Rattle.wasm_sem.specs.declared.Turn.TheVariants.{Over}
use Rattle.wasm_sem.specs.Execution.{link, Links, Summary, Configuration, configuration, Phase, starting, calling, over}
use Rattle.wasm_run.specs.Running.{Run, configuration_of}
use Rattle.wasm_run.specs.Turns.{next_turn, after_turn, started_in}
use Rattle.run_session.specs.declared.link.LinkFault.{LinkFault}
use Rattle.run_session.specs.declared.session.Outcome.{Outcome}
use Rattle.run_session.specs.declared.session.Pending.{Pending}
use Rattle.run_session.specs.declared.session.Pending.TheVariants.{Nothing, Start, Call}
use Rattle.run_session.specs.Linking.{TellsRefusal}

-- the run before its first step
abbrev pub opened_run : Module → Script → Run
opened_run m s = record { «module» = m; script = s; made = 0 }

-- the run before its first step, if module and script link; otherwise why they do not
abbrev pub OpensSession : Module → Script → Result Run LinkFault → Type 0
OpensSession m s (Ok r) = Links m s × (r ≡ opened_run m s)
OpensSession m s (Err fault) = TellsRefusal fault (link m s)

-- what the next turn does: a step of the run; or nothing, because the run is over or all steps of the script were made
abbrev pub session_turn : Run → Turn
session_turn r = cond (nat_eq r.made r.script.steps) Over (next_turn r)

-- the answer says what the turn did; it did nothing if memory ran out
abbrev pub TakesTurn : Result Turn AllocError → (old new : Run) → Type 0
TakesTurn (Ok turn) old new = (turn ≡ session_turn old) × (new ≡ after_turn turn old)
TakesTurn (Err u) old new = new ≡ old

-- what came of a run, as a summary
abbrev pub told_outcome : Outcome → Summary
told_outcome o = record { start = o.start; calls = o.calls; pages = o.pages; hosts = o.hosts; running = o.running }

-- ---- what has no answer yet

abbrev pub pending_by : Phase → Pending
pending_by starting = Start
pending_by (calling n) = Call
pending_by over = Nothing

abbrev pub pending_in : Configuration → Pending
pending_in (configuration e fs) = pending_by e.phase

-- the module has a start function, which has not ended
abbrev pub awaits_start : Run → Bool
awaits_start r = is_some r.module.start && is_none (started_in (configuration_of r))

-- what came of a run in which this has no answer yet
abbrev pub pending_summary : Pending → (pages hosts : ℕ) → (started : Option Answer) → (answers : List Answer) → Summary
pending_summary Nothing pages hosts started answers = record { start = started; calls = answers; pages = pages; hosts = hosts; running = false }
pending_summary Start pages hosts started answers = record { start = Some Unfinished; calls = answers; pages = pages; hosts = hosts; running = true }
pending_summary Call pages hosts started answers = record { start = started; calls = answers ++ (Unfinished ∷ []); pages = pages; hosts = hosts; running = true }
