-- What the machine answers of a step, and of several.
use Rattle.std.specs.Prelude.{◌≡◌, ℕ, ◌+◌, ◌<◌, ◌≤◌, List, Option, Result, Ok, Err, true, false}
use Rattle.std.specs.declared.alloc.AllocError.{AllocError}
use Rattle.wasm_sem.specs.declared.Answer.{Answer}
use Rattle.wasm_sem.specs.declared.Turn.{Turn}
use Rattle.wasm_sem.specs.declared.Turn.TheVariants.{Ran, Hook, Over}
use Rattle.wasm_sem.specs.declared.Stop.{Stop}
use Rattle.wasm_sem.specs.declared.Stop.TheVariants as stops
use Rattle.wasm_sem.specs.Execution.{instance, Configuration, configuration, is_over, turn_of}
use Rattle.wasm_run.specs.Running.{Run, configuration_of, one_more}

-- the answer of the start function, if it has ended
abbrev pub started_in : Configuration → Option Answer
started_in (configuration e fs) = e.started

-- the answers of the calls that have ended
abbrev pub answers_in : Configuration → List Answer
answers_in (configuration e fs) = e.answers

-- a run that is over makes no step more
abbrev pub after_turn : Turn → Run → Run
after_turn Over r = r
after_turn Ran r = one_more r
after_turn (Hook h) r = one_more r

-- what the next step of the run does
abbrev pub next_turn : Run → Turn
next_turn r = turn_of (instance r.module r.script) (configuration_of r)

-- the answer says what the step did; no step was made if memory ran out
abbrev pub MakesTurn : Result Turn AllocError → (old new : Run) → Type 0
MakesTurn (Ok turn) old new = (turn ≡ next_turn old) × (new ≡ after_turn turn old)
MakesTurn (Err u) old new = new ≡ old

-- the run with that many steps more
abbrev pub more_steps : ℕ → Run → Run
more_steps n r = record r { made = r.made + n }

-- at most `most` steps were made, and none after the end
pub record IsFurther (most : ℕ) (old new : Run) : Type 0 where
  pub steps : ℕ
  pub few : steps ≤ most
  pub further : new ≡ more_steps steps old
  pub going : (fewer : ℕ) → fewer < steps → is_over (configuration_of (more_steps fewer old)) ≡ false

-- all of them were made, or fewer, up to the end of the run or to where memory ran out
abbrev pub RunsFor : (most : ℕ) → Result Stop AllocError → (old new : Run) → Type 0
RunsFor most (Ok stops.OutOfSteps) old new = (new ≡ more_steps most old) × (is_over (configuration_of new) ≡ false)
RunsFor most (Ok stops.Over) old new = IsFurther most old new × (is_over (configuration_of new) ≡ true)
RunsFor most (Err u) old new = IsFurther most old new
