-- A call of a function of the module is a step of the run.
use Rattle.std.proofs.Common.{◌≡◌, ℕ, ◌+◌, List, [], ◌∷◌, length, Option, Some, None, Bool, true, false, cond, nat_lt, refl, sym, subst}
use Rattle.wasm_sem.specs.Types.{Value, Body, FuncType, Module}
use Rattle.module_ast.specs.Structure.{Tree}
use Rattle.module_ast.specs.Validation.{declared_locals}
use Rattle.run_store.specs.Held.{Held}
use Rattle.wasm_sem.specs.declared.Answer.TheVariants.{Trapped}
use Rattle.wasm_sem.specs.declared.Script.{Script}
use Rattle.wasm_sem.specs.declared.Trap.{Trap}
use Rattle.wasm_sem.specs.declared.Trap.TheVariants.{Depth}
use Rattle.wasm_sem.specs.Execution.{own, Instance, instance, Frame, Env, Configuration, configuration, Next, reduces, traps, with_ops, new_frame, env_after, after_step, run_of, zeros}
use Rattle.run_stack.specs.Flat.{Flat, PutsFrame}
use Rattle.wasm_run.specs.Entering.{IsCalling, entered_next, HasEntered}
use Rattle.wasm_run.specs.Moves.{RunsOn, EndsWith}
use Rattle.run_stack.specs.Slots.{behind_call}
use Rattle.run_store.specs.Resolved.{IsSizeOf}
use Rattle.wasm_run.specs.Running.{KeepsConfiguration, IsLinked, IsRunning}
use Rattle.run_stack.specs.Standing.{KeepsStore}
use Rattle.wasm_run.proofs.Invoking.{Invoker, behind, lies_behind, room_behind}
use Rattle.wasm_run.proofs.Moments.{env_store}
use Rattle.wasm_run.proofs.Rooms.{next_state, enters_room}

module _ (m : Module) (s : Script) (made : ℕ) (f : Flat) (memory : Held) (globals : List Value) (linked : IsLinked m s) (slot : Option ℕ) (func : ℕ) (k : Tree) (ty : FuncType) (body : Body)
    (x : Invoker m s made f memory globals linked slot func k (own ty (declared_locals body.groups) body.code)) (t : Flat) (moves : t ≡ behind_call slot k f) where
  abbrev inst : Instance
  inst = instance m s

  abbrev caller : Frame
  caller = behind m s made f memory globals linked slot func k (own ty (declared_locals body.groups) body.code) x

  abbrev new : Frame
  new = new_frame func ty (declared_locals body.groups) body.code x.args

  abbrev start : Configuration
  start = configuration x.env (x.frame ∷ x.below)

  abbrev next_by : Bool → Next
  next_by b = cond b (reduces (configuration x.env (new ∷ with_ops caller x.rest ∷ x.below))) (traps Depth)

  -- where the call leads: into the function, or to a trap, which leaves no frame
  abbrev pub KeptBy : Option Trap → Configuration → Flat → Type 0
  KeptBy None c u = KeepsConfiguration m s c u memory globals × RunsOn start c
  KeptBy (Some v) c u = ((empty : Flat) → empty.bases ≡ [] → KeepsConfiguration m s c empty memory globals) × EndsWith inst (Trapped v) start c

  abbrev pub RunningBy : Option Trap → Flat → Type 0
  RunningBy None u = IsRunning m s (made + 1) u memory globals × RunsOn (run_of m s made) (run_of m s (made + 1))
  RunningBy (Some v) u = ((empty : Flat) → empty.bases ≡ [] → IsRunning m s (made + 1) empty memory globals) × EndsWith inst (Trapped v) (run_of m s made) (run_of m s (made + 1))

  by_trap : (trap : Option Trap) (u : Flat) → KeptBy trap (run_of m s (made + 1)) u → RunningBy trap u
  by_trap None u h = (record { linked = linked; keeps = h.0 }, subst (λ c. RunsOn c (run_of m s (made + 1))) (sym x.at) h.1)
  by_trap (Some v) u h = (
    λ empty unframed. record { linked = linked; keeps = h.0 empty unframed },
    subst (λ c. EndsWith inst (Trapped v) c (run_of m s (made + 1))) (sym x.at) h.1,
  )

  pub is_calling : IsCalling t inst caller x.below ty x.args x.rest
  is_calling = record {
    lies = lies_behind m s made f memory globals linked slot func k (own ty (declared_locals body.groups) body.code) x t moves;
    popped = x.popped;
  }

  abbrev Entered : Option Trap → Flat → (high nesting : ℕ) → Type 0
  Entered trap u high nesting = trap ≡ None → PutsFrame (length ty.params) (zeros (declared_locals body.groups)) body.code (length ty.results) high nesting t u

  module _ (locals high nesting : ℕ) (u : Flat) (size : IsSizeOf m ty body locals high nesting) where
    entering : (trap : Option Trap) (b : Bool) → Entered trap u high nesting → HasEntered x.env trap (next_by b) u → KeptBy trap (after_step inst start (next_by b)) u
    entering None true enters (q, lies) = (
      (
        lies,
        x.store,
        enters_room m t u caller x.below func ty (declared_locals body.groups) body.code x.args x.rest high nesting is_calling.lies x.popped (enters refl) x.callee size.high_is size.nesting_is
            (room_behind m s made f memory globals linked slot func k (own ty (declared_locals body.groups) body.code) x t moves),
      ),
      record { inside = tt; same = record { phase = refl; started = refl; answers = refl } },
    )
    entering None false enters h = absurd h
    entering (Some v) true enters h = absurd h
    entering (Some v) false enters h = (
      λ empty unframed. (unframed, subst (λ st. KeepsStore inst st memory globals) (sym (env_store inst x.env.phase x.env (Trapped Depth))) x.store),
      subst (λ v. EndsWith inst (Trapped v) start (configuration (env_after inst x.env.phase x.env (Trapped Depth)) [])) (sym h)
          (record { outside = λ h. h; told = record { phase = refl; started = refl; answers = refl } }),
    )

    -- the call is a step of the run
    entered : (trap : Option Trap) → Entered trap u high nesting → HasEntered x.env trap (entered_next inst x.env caller x.below func ty body x.args x.rest) u → RunningBy trap u
    entered trap enters h =
        by_trap trap u
        (subst (λ c. KeptBy trap c u) (sym (next_state m s linked.valid linked.complete linked.range linked.links made start x.at))
        (subst (λ n. KeptBy trap (after_step inst start n) u) (sym x.next_is) (entering trap (nat_lt (length (with_ops caller x.rest ∷ x.below)) inst.depth) enters h)))

    -- from what the call tells, where it was found which trap, or that there was none
    pub made_call : (found trap : Option Trap) → found ≡ trap → Entered found u high nesting
        → ((i : Instance) (e : Env) (fr : Frame) (below : List Frame) (g : ℕ) (args rest : List Value) → IsCalling t i fr below ty args rest → i.depth ≡ s.depth → HasEntered e found (entered_next i e fr below g ty body args rest) u)
        → RunningBy trap u
    made_call found trap same enters h = subst (λ o. RunningBy o u) same (entered found enters (h inst x.env caller x.below func x.args x.rest is_calling refl))
