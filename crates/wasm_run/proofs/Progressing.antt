-- What is told of a run goes on with it.
use Rattle.std.proofs.Common.{◌≡◌, ℕ, ◌+◌, ◌<◌, ◌≤◌, inl, inr, List, [], ◌∷◌, ◌++◌, length, Option, Some, None, Result, Ok, Err, Bool, true, false, refl, sym, ap, subst, ◌∙◌, arith, vec_capacity}
use Rattle.std.specs.Prelude.{IsErr}
use Rattle.std.specs.declared.alloc.AllocError.{AllocError}
use Rattle.wasm_sem.specs.Types.{Module}
use Rattle.wasm_sem.specs.declared.Answer.{Answer}
use Rattle.wasm_sem.specs.declared.HookCall.{HookCall}
use Rattle.wasm_sem.specs.declared.Turn.{Turn}
use Rattle.wasm_sem.specs.Execution.{hook_in, turn_by, Instance, instance, Env, first_phase, run_of, after_start, call_from, env_after, is_over, items}
use Rattle.wasm_run.specs.declared.progress.Progress.{Progress}
use Rattle.wasm_run.specs.declared.progress.Stage.{Stage}
use Rattle.wasm_run.specs.declared.progress.Stage.TheVariants as stages
use Rattle.wasm_run.specs.Moves.{env_beside, HasSameAnswers, MovesBy, MayWant}
use Rattle.wasm_run.specs.Progress.{IsStage, TellsProgress, MovesOn, StepsInside, env_by, KeepsAnswers, TakesStep}
use Rattle.wasm_run.specs.Running.{Run, configuration_of, one_more}
use Rattle.std.proofs.lemmas.Bool.{cases_lt}
use Rattle.wasm_sem.specs.declared.Script.{Script}
use Rattle.wasm_run.specs.Turns.{after_turn, next_turn, MakesTurn, more_steps, IsFurther, RunsFor}
use Rattle.wasm_sem.specs.declared.Stop.{Stop}
use Rattle.wasm_run.proofs.NextCalls.{calls_count}

-- ---- answers

-- the start has ended
pub started_tells : (m : Module) (inst : Instance) (e : Env) (p q : Progress) (f : ℕ) (a : Answer) → p.stage ≡ stages.Start f → TellsProgress m e p → IsStage m q.stage (after_start inst a) → q.started ≡ Some a → q.answers ≡ p.answers → TellsProgress m (env_after inst e.phase e a) q
started_tells m inst e p q f a at t stage started answers =
    subst (λ ph. TellsProgress m (env_after inst ph e a) q) (sym (subst (λ st. IsStage m st e.phase) at t.stage).1)
    (record { stage = stage; started = started; answers = ap (λ v. v.items) answers ∙ t.answers })

-- a call has ended
pub called_tells : (m : Module) (inst : Instance) (e : Env) (p q : Progress) (n : ℕ) (a : Answer) → p.stage ≡ stages.Call n → TellsProgress m e p → IsStage m q.stage (call_from inst (n + 1)) → q.started ≡ p.started → q.answers.items ≡ p.answers.items ++ a ∷ [] → TellsProgress m (env_after inst e.phase e a) q
called_tells m inst e p q n a at t stage started answers =
    subst (λ ph. TellsProgress m (env_after inst ph e a) q) (sym (subst (λ st. IsStage m st e.phase) at t.stage))
    (record { stage = subst (λ k. IsStage m q.stage (call_from inst k)) (omega arith) stage; started = started ∙ t.started; answers = answers ∙ ap (λ others. others ++ a ∷ []) t.answers })

-- ---- steps

same_tells : (m : Module) (e f : Env) (p : Progress) → HasSameAnswers e f → TellsProgress m e p → TellsProgress m f p
same_tells m e f p same t = record {
  stage = subst (IsStage m p.stage) (sym same.phase) t.stage;
  started = t.started ∙ sym same.started;
  answers = t.answers ∙ sym same.answers;
}

-- with room for an answer
pub with_room : (m : Module) (e : Env) (p q : Progress) → q.stage ≡ p.stage → q.started ≡ p.started → q.answers.items ≡ p.answers.items → TellsProgress m e p → TellsProgress m e q
with_room m e p q stage started answers t = record {
  stage = subst (λ st. IsStage m st e.phase) (sym stage) t.stage;
  started = started ∙ t.started;
  answers = answers ∙ t.answers;
}

-- a step was made
pub moved_answers : (old new : Run) (p q : Progress) (functions : List ℕ) (a : Option Answer) → KeepsAnswers old p functions → length p.answers.items < vec_capacity p.answers → new ≡ one_more old
    → MovesBy (instance old.module old.script) a (configuration_of old) (configuration_of (one_more old))
    → ((m : Module) (inst : Instance) (e : Env) → length inst.calls ≡ length functions → TellsProgress m e p → TellsProgress m (env_by inst a e) q) → (a ≡ None → q ≡ p) → KeepsAnswers new q functions
moved_answers old new p q functions None had room is moves ended same =
    subst (λ r. KeepsAnswers r q functions) (sym is)
    (subst (λ q. KeepsAnswers (one_more old) q functions) (sym (same refl)) (record {
      linked = had.linked;
      tells = same_tells old.module (env_beside (configuration_of old)) (env_beside (configuration_of (one_more old))) p moves.same had.tells;
      room = λ _. room;
      functions_are = had.functions_are;
    }))
moved_answers old new p q functions (Some a) had room is moves ended same =
    let inst = instance old.module old.script in
    let e = env_beside (configuration_of old) in
    subst (λ r. KeepsAnswers r q functions) (sym is) (record {
      linked = had.linked;
      tells = same_tells old.module (env_after inst e.phase e a) (env_beside (configuration_of (one_more old))) q moves.told
          (ended old.module inst e (calls_count old.module old.script functions had.functions_are) had.tells);
      room = λ inside. absurd (moves.outside inside);
      functions_are = had.functions_are;
    })

-- ---- a step inside a function

-- it went on
pub follows_none : (calls : ℕ) (p : Progress) → MovesOn calls None p p
follows_none calls p = record { tells = λ m inst e counts t. t; same = λ h. refl }

-- memory was wanting
pub steps_wanting : {A : Type 0} (calls : ℕ) (r : Result A AllocError) (old new : Run) (p : Progress) → IsErr r → new ≡ old → MayWant (configuration_of old) → StepsInside calls r old new p p
steps_wanting calls (Ok x) old new p h same may = absurd cc
steps_wanting calls (Err u) old new p h same may = ((same, may), refl)

-- ---- what a step is said to have done

pub turned : (b : Bool) (turn : Turn) (old new : Run) → turn ≡ next_turn old → TakesStep (Ok b) old new → MakesTurn (Ok turn) old new
turned true turn old new is (more, going) =
    (is, more ∙ by_hook (hook_in (items (instance old.module old.script) (configuration_of old))) (is ∙ ap (λ b. turn_by b (hook_in (items (instance old.module old.script) (configuration_of old)))) going))
  where
    by_hook : (h : Option HookCall) → turn ≡ turn_by false h → one_more old ≡ after_turn turn old
    by_hook None e = ap (λ t. after_turn t old) (sym e)
    by_hook (Some h) e = ap (λ t. after_turn t old) (sym e)
turned false turn old new is (same, done) =
    (is, same ∙ ap (λ t. after_turn t old) (sym (is ∙ ap (λ b. turn_by b (hook_in (items (instance old.module old.script) (configuration_of old)))) done)))

-- before the first step
pub opening_tells : (m : Module) (s : Script) (p : Progress) → IsStage m p.stage (first_phase (instance m s) m.start) → p.started ≡ None → p.answers.items ≡ [] → TellsProgress m (env_beside (run_of m s 0)) p
opening_tells m s p stage started answers = record { stage = stage; started = started; answers = answers }

-- ---- several steps

-- after so many steps, none of them after the end
pub record HasGone (steps : ℕ) (old new : Run) : Type 0 where
  pub further : new ≡ more_steps steps old
  pub going : (fewer : ℕ) → fewer < steps → is_over (configuration_of (more_steps fewer old)) ≡ false

pub gone_none : (r : Run) → HasGone 0 r r
gone_none r = record { further = ap (λ n. record r { made = n }) (omega arith); going = λ fewer h. absurd (omega (arith, h)) }

pub gone_more : (steps : ℕ) (old new next : Run) → HasGone steps old new → TakesStep (Ok true) new next → HasGone (steps + 1) old next
gone_more steps old new next had (more, going) = record {
  further = more ∙ ap one_more had.further ∙ ap (λ n. record old { made = n }) (omega arith);
  going = λ fewer h. elim (cases_lt fewer steps) [
    | inl w ↦ had.going fewer w
    | inr w ↦
        let here : fewer ≡ steps = omega (arith, h, w) in
        ap (λ n. is_over (configuration_of (more_steps n old))) here ∙ sym (ap (λ r. is_over (configuration_of r)) had.further) ∙ going
  ];
}

pub gone_further : (most steps : ℕ) (old new : Run) → steps ≤ most → HasGone steps old new → IsFurther most old new
gone_further most steps old new few had = record { steps = steps; few = few; further = had.further; going = had.going }

-- where memory is wanting
pub wanted : (r : Result Bool AllocError) (old new : Run) → IsErr r → new ≡ old → MayWant (configuration_of old) → is_over (configuration_of old) ≡ false → TakesStep r old new
wanted (Ok b) old new h same want going = absurd cc
wanted (Err u) old new h same want going = (same, want, going)

-- ---- the opening

pub opened_start : (m : Module) (s : Script) (st : Stage) (f : ℕ) → st ≡ stages.Start f → m.start ≡ Some f → IsStage m st (first_phase (instance m s) m.start)
opened_start m s st f at start = subst (λ st. IsStage m st (first_phase (instance m s) m.start)) (sym at) (start, ap (first_phase (instance m s)) start)

pub opened_call : (m : Module) (s : Script) (st : Stage) → m.start ≡ None → IsStage m st (call_from (instance m s) 0) → IsStage m st (first_phase (instance m s) m.start)
opened_call m s st start h = subst (IsStage m st) (sym (ap (first_phase (instance m s)) start)) h

-- where memory is wanting before all steps were made
pub runs_wanting : (most : ℕ) (r : Result Stop AllocError) (old new : Run) → IsErr r → IsFurther most old new → RunsFor most r old new
runs_wanting most (Ok x) old new h further = absurd cc
runs_wanting most (Err u) old new h further = further
