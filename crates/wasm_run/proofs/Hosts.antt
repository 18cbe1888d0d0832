-- How many host calls a run has made, step by step.
use Rattle.std.proofs.Common.{◌≡◌, ℕ, ◌+◌, List, [], ◌∷◌, length, Option, Bool, true, false, cond, nat_lt, refl, sym, ap, subst, ◌∙◌, arith}
use Rattle.wasm_sem.specs.Types.{Value, Module, FuncType, ValType}
use Rattle.module_ast.specs.Structure.{Tree}
use Rattle.run_store.specs.Held.{Held}
use Rattle.wasm_sem.specs.declared.Answer.TheVariants.{Trapped}
use Rattle.wasm_sem.specs.declared.Script.{Script}
use Rattle.wasm_sem.specs.declared.Trap.{Trap}
use Rattle.wasm_sem.specs.declared.Trap.TheVariants.{Depth}
use Rattle.wasm_sem.specs.Execution.{hosts_in, own, Instance, instance, Frame, Env, Configuration, configuration, Next, reduces, traps, ends, stuck, with_ops, frame_behind, step, after_step, run_of}
use Rattle.wasm_run.specs.Beside.{HasMadeHosts}
use Rattle.run_stack.specs.Calls.{NextIsNoCall}
use Rattle.run_stack.specs.Flat.{Flat, first_rest}
use Rattle.wasm_run.specs.Running.{IsLinked, KeepsConfiguration, IsRunning, IsInside}
use Rattle.wasm_run.proofs.Invoking.{Invoker}
use Rattle.wasm_run.proofs.Beside.{NextGoesOn, answer_stays, same_beside, step_goes_on}
use Rattle.wasm_run.proofs.Rooms.{next_state}

hosts_after : (inst : Instance) (e : Env) (fs : List Frame) (n : Next) → NextGoesOn e n → hosts_in (after_step inst (configuration e fs) n) ≡ e.store.hosts
hosts_after inst e fs (reduces (configuration f [])) h = h.hosts
hosts_after inst e fs (reduces (configuration f (fr ∷ below))) h = h.store.hosts
hosts_after inst e fs (traps t) h = (answer_stays inst e.phase e (Trapped t)).hosts
hosts_after inst e fs ends h = refl
hosts_after inst e fs stuck h = refl

module _ (m : Module) (s : Script) (made hosts : ℕ) (linked : IsLinked m s) (h : HasMadeHosts m s made hosts) where
  same_hosts : (e : Env) (fs : List Frame) → run_of m s made ≡ configuration e fs → NextGoesOn e (step (instance m s) (configuration e fs)) → HasMadeHosts m s (made + 1) hosts
  same_hosts e fs at g =
      let few = h.few in
      record {
        counted = ap hosts_in (next_state m s linked.valid linked.complete linked.range linked.links made (configuration e fs) at)
            ∙ hosts_after (instance m s) e fs (step (instance m s) (configuration e fs)) g ∙ sym (ap hosts_in at) ∙ h.counted;
        few = omega (arith, few);
      }

  -- where the step traps
  pub trap_hosts : (t : Trap) → step (instance m s) (run_of m s made) ≡ traps t → HasMadeHosts m s (made + 1) hosts
  trap_hosts t = go (run_of m s made) refl
    where
      go : (c : Configuration) → run_of m s made ≡ c → step (instance m s) c ≡ traps t → HasMadeHosts m s (made + 1) hosts
      go (configuration e fs) at q = same_hosts e fs at (subst (NextGoesOn e) (sym q) tt)

  module _ (f : Flat) (memory : Held) (globals : List Value) (running : IsRunning m s made f memory globals) where
    -- where it calls no function
    pub inside_hosts : IsInside (run_of m s made) → NextIsNoCall (first_rest f.spots) → HasMadeHosts m s (made + 1) hosts
    inside_hosts inside none = go (run_of m s made) refl running.keeps inside
      where
        go : (c : Configuration) → run_of m s made ≡ c → KeepsConfiguration m s c f memory globals → IsInside c → HasMadeHosts m s (made + 1) hosts
        go (configuration e []) at keeps inside = absurd inside
        go (configuration e (fr ∷ below)) at (lies, store, room) inside =
            same_hosts e (fr ∷ below) at (step_goes_on (instance m s) e fr below (subst (λ ss. NextIsNoCall (first_rest ss)) lies.spots none))

  -- where it calls a function of the module
  pub own_hosts : (f : Flat) (memory : Held) (globals : List Value) (slot : Option ℕ) (func : ℕ) (k : Tree) (ty : FuncType) (locals : List ValType) (code : Tree)
      → Invoker m s made f memory globals linked slot func k (own ty locals code) → HasMadeHosts m s (made + 1) hosts
  own_hosts f memory globals slot func k ty locals code x =
      same_hosts x.env (x.frame ∷ x.below) x.at
      (subst (NextGoesOn x.env) (sym x.next_is) (entered x.env (with_ops (frame_behind x.frame k) x.rest ∷ x.below) _ (nat_lt (length (with_ops (frame_behind x.frame k) x.rest ∷ x.below)) (instance m s).depth)))
    where
      entered : (e : Env) (below : List Frame) (fr : Frame) (b : Bool) → NextGoesOn e (cond b (reduces (configuration e (fr ∷ below))) (traps Depth))
      entered e below fr true = same_beside e
      entered e below fr false = tt
