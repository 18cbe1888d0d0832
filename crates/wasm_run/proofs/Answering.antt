-- A call that is answered at once is a step of the run.
use Rattle.std.proofs.Common.{◌≡◌, ℕ, ◌+◌, ◌≤◌, List, [], ◌∷◌, length, drop, Option, refl, sym, ap, subst, ◌∙◌, arith}
use Rattle.wasm_sem.specs.Types.{ValType, Value, Module}
use Rattle.module_ast.specs.Structure.{Tree}
use Rattle.module_ast.specs.Validation.{push}
use Rattle.run_store.specs.Held.{Held}
use Rattle.wasm_sem.specs.declared.Script.{Script}
use Rattle.wasm_sem.specs.Heights.{IsConfigurationWithin}
use Rattle.wasm_sem.specs.Execution.{Callee, callee_type, instance, Frame, Env, configuration, reduces, with_ops, invoke, after_step, run_of, zero_of, zeros, values_of}
use Rattle.wasm_sem.proofs.Heights.{stays_within}
use Rattle.wasm_run.specs.Answering.{returned_with}
use Rattle.run_stack.specs.Flat.{Flat}
use Rattle.run_stack.specs.Kept.{under, all_values, Lies}
use Rattle.wasm_run.specs.Moves.{HasSameAnswers, RunsOn}
use Rattle.run_stack.specs.Slots.{behind_call}
use Rattle.wasm_run.specs.Rooms.{HaveRoom}
use Rattle.wasm_run.specs.Running.{KeepsConfiguration, IsLinked, IsRunning}
use Rattle.run_stack.specs.Standing.{KeepsStore}
use Rattle.wasm_run.proofs.Invoking.{Invoker, behind, lies_behind, left_are, room_behind}
use Rattle.wasm_sem.proofs.Operands.{push_append}
use Rattle.wasm_sem.proofs.SoundEntries.{can_link}
use Rattle.run_stack.proofs.Pushed.{push_length}
use Rattle.wasm_run.proofs.Rooms.{next_state, same_room, frames_fit}

-- ---- lists

-- without numbers all values are zeros
pub values_none : (ts : List ValType) → values_of ts [] ≡ zeros ts
values_none [] = refl
values_none (t ∷ ts) = ap (λ vs. zero_of t ∷ vs) (values_none ts)

-- ---- the answer

module _ (m : Module) (s : Script) (made : ℕ) (f : Flat) (memory : Held) (globals : List Value) (linked : IsLinked m s) (slot : Option ℕ) (func : ℕ) (k : Tree) (called : Callee)
    (x : Invoker m s made f memory globals linked slot func k called) (t : Flat) (moves : t ≡ behind_call slot k f)
    (e : Env) (vs : List Value) (comes : invoke (instance m s) x.env (with_ops (behind m s made f memory globals linked slot func k called x) x.rest ∷ x.below) func called x.args
    ≡ reduces (configuration e (with_ops (behind m s made f memory globals linked slot func k called x) (push vs x.rest) ∷ x.below))) where
  abbrev caller : Frame
  caller = behind m s made f memory globals linked slot func k called x

  abbrev answered : Frame
  answered = with_ops caller (push vs x.rest)

  abbrev count : ℕ
  count = length (callee_type called).params

  pub answered_at : run_of m s (made + 1) ≡ configuration e (answered ∷ x.below)
  answered_at = next_state m s linked.valid linked.complete linked.range linked.links made (configuration x.env (x.frame ∷ x.below)) x.at
      ∙ ap (after_step (instance m s) (configuration x.env (x.frame ∷ x.below))) (x.next_is ∙ comes)

  -- the run goes on
  pub answered_on : HasSameAnswers x.env e → RunsOn (run_of m s made) (run_of m s (made + 1))
  answered_on same =
      subst (λ c. RunsOn c (run_of m s (made + 1))) (sym x.at)
      (subst (RunsOn (configuration x.env (x.frame ∷ x.below))) (sym answered_at) (record { inside = tt; same = same }))

  before_it : Lies t (caller ∷ x.below)
  before_it = lies_behind m s made f memory globals linked slot func k called x t moves

  room_here : HaveRoom m t.value_room t.spot_room (answered ∷ x.below)
  room_here =
      let room = room_behind m s made f memory globals linked slot func k called x t moves in
      (same_room m t.value_room t.spot_room caller answered x.below refl room.0, room.1)

  fits : length (all_values (answered ∷ x.below)) ≤ t.value_room
  fits =
      (frames_fit m t.value_room t.spot_room (answered ∷ x.below)
      (subst (IsConfigurationWithin m) answered_at (stays_within m s linked.valid linked.complete linked.range.writes (can_link m s linked.links) (made + 1))) room_here).0

  values_answered : push vs (drop count t.values) ≡ all_values (answered ∷ x.below)
  values_answered = ap (push vs) (left_are m s made f memory globals linked slot func k called x t moves) ∙ push_append vs x.rest (under caller x.below)

  -- there is room for the results
  pub results_fit : length (drop count t.values) + length vs ≤ t.value_room
  results_fit = omega (arith, fits, ap length values_answered, push_length vs (drop count t.values))

  -- the run stands behind the call
  pub answered_running : (u : Flat) (after : Held) → u ≡ returned_with (callee_type called) vs t → KeepsStore (instance m s) e.store after globals → IsRunning m s (made + 1) u after globals
  answered_running u after is keeps = record {
    linked = linked;
    keeps = subst (λ c. KeepsConfiguration m s c u after globals) (sym answered_at) (
      subst (λ (u : Flat). Lies u (answered ∷ x.below)) (sym is) (record {
        values = values_answered;
        spots = before_it.spots;
        bases = before_it.bases;
      }),
      keeps,
      subst (λ (u : Flat). HaveRoom m u.value_room u.spot_room (answered ∷ x.below)) (sym is) room_here,
    );
  }
