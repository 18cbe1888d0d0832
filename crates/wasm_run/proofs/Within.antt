-- A step that calls no function, from a frame: where it leads, and what it leaves as it was.
use Rattle.std.proofs.Common.{◌≡◌, ℕ, List, [], ◌∷◌, Some, refl}
use Rattle.wasm_sem.specs.Types.{Value}
use Rattle.wasm_sem.specs.declared.Trap.{Trap}
use Rattle.wasm_sem.specs.Execution.{Store, Instance, Label, Frame, Env, Configuration, configuration, Next, reduces, traps, stuck, pop_values, return_to, reduce_code, TraceItem, outermost}
use Rattle.wasm_sem.proofs.Rules.{Jumps, lands, leaves, crosses, unfed, unheld, by_index, by_slot, StepRule, computes, halts, jumps, stays, calls, misses, opens, skips, falls, finishes, enters, rests, lacks, rule_of}
use Rattle.run_stack.specs.Calls.{NextIsNoCall}
use Rattle.wasm_sem.specs.Rules.{HasSameRest}

-- The frame goes on, with another memory or other globals; or it returns what the outermost label takes; or it traps.
pub data Within (inst : Instance) (e : Env) (fr : Frame) (below : List Frame) : Next → Type 0 where
  moves : (new : Store) (g : Frame) → HasSameRest e.store new → g.func ≡ fr.func → Within inst e fr below (reduces (configuration (record e { store = new }) (g ∷ below)))
  returns : (o : List Value) (p : List Value × List Value) → pop_values (outermost fr.top fr.outer).arity o [] ≡ Some p → Within inst e fr below (return_to inst e below p.0)
  fails : (t : Trap) → Within inst e fr below (traps t)
  starves : Within inst e fr below stuck

module _ (inst : Instance) where
  -- with the store as it is
  goes_on : {e : Env} {fr : Frame} {below : List Frame} (g : Frame) → g.func ≡ fr.func → Within inst e fr below (reduces (configuration e (g ∷ below)))
  goes_on {e = e} g same = moves e.store g (record { slots = refl; hosts = refl }) same

  -- a branch, from behind an instruction of the frame
  by_jump : (e : Env) (fr g : Frame) (below : List Frame) (o : List Value) {n : ℕ} {t : Label} {outer : List Label} {is : List TraceItem} {next : Next} → Jumps inst e g below o n t outer is next → g.func ≡ fr.func
      → (outermost t outer).arity ≡ (outermost fr.top fr.outer).arity → Within inst e fr below next
  by_jump e fr g below o (lands t l ls p h) same last = goes_on _ same
  by_jump e fr g below o (leaves t p h) same last = returns o p (rw last at h)
  by_jump e fr g below o (crosses t j) same last = by_jump e fr g below o j same last
  by_jump e fr g below o (unfed t outer) same last = starves
  by_jump e fr g below o (unheld t) same last = starves

  -- the outermost label behind an instruction has the arity that it has before it
  same_last : (t u : Label) (ls : List Label) → t.arity ≡ u.arity → (outermost t ls).arity ≡ (outermost u ls).arity
  same_last t u [] h = h
  same_last t u (l ∷ ls) h = refl

  abbrev IsWithin : Configuration → Next → Type 0
  IsWithin (configuration e []) next = Unit {0}
  IsWithin (configuration e (fr ∷ below)) next = NextIsNoCall fr.top.rest → Within inst e fr below next

  by_rule : {c : Configuration} {is ts : List TraceItem} {next : Next} → StepRule inst c is ts next → IsWithin c next
  by_rule (computes e fr below i k o new l left si sr q same) = λ no_call. moves new _ same refl
  by_rule (halts e fr below i k o t si sr q) = λ no_call. fails t
  by_rule (jumps e fr below i k o n left b q j) = λ no_call. by_jump e _ _ below left j refl (same_last _ _ fr.outer refl)
  by_rule (stays e fr below n k o) = λ no_call. goes_on _ refl
  by_rule (calls e fr below _ k _ f c args left ev (by_index n _ o p at h) q j) = λ no_call. absurd no_call
  by_rule (calls e fr below _ k _ f c args left ev (by_slot x i n ty _ o p tx h sl at same) q j) = λ no_call. absurd no_call
  by_rule (misses e fr below x i k o ty f p t tx h sl) = λ no_call. fails t
  by_rule (opens e fr below whole o s cont ty inside body outside k left p h q e1) = λ no_call. goes_on _ refl
  by_rule (skips e fr below bt body k o) = λ no_call. goes_on _ refl
  by_rule (falls e fr below o l ls) = λ no_call. goes_on _ refl
  by_rule (finishes e fr below o p h) = λ no_call. returns o p h
  by_rule (enters e c callee h at j) = tt
  by_rule (rests e h) = tt
  by_rule (lacks (configuration e []) h) = tt
  by_rule (lacks (configuration e (fr ∷ below)) h) = λ no_call. starves

-- a step that calls no function
pub within : (inst : Instance) (e : Env) (fr : Frame) (below : List Frame) → NextIsNoCall fr.top.rest → Within inst e fr below (reduce_code inst e fr below fr.top.rest fr.top.ops)
within inst e fr below no_call = by_rule inst (rule_of inst (configuration e (fr ∷ below))) no_call
