-- Where a call leads: the function of a direct call, the slot of one through the table, and what is told of a call of a hook.
use Rattle.std.proofs.Common.{inl, ◌≡◌, ◌≢◌, ℕ, ◌-◌, ◌<◌, ◌≤◌, List, [], ◌∷◌, ◌++◌, length, take, drop, slice_index_or, Option, Some, None, true, false, cond, refl, sym, ap, ap₂, subst, ◌∙◌, arith, slice_get}
use Rattle.std.proofs.lemmas.Bool.{and_parts}
use Rattle.std.proofs.lemmas.Option.{slice_get_within, same_Some}
use Rattle.wasm_sem.specs.Types.{ValType, Value, FuncType, Module, Instr}
use Rattle.wasm_num.specs.declared.Value.TheVariants.{I32, I64}
use Rattle.module_ast.specs.declared.code.Instr.TheVariants as instrs
use Rattle.module_ast.specs.Structure.{before, code_of, Tree, plain, call, call_indirect}
use Rattle.std.proofs.lemmas.List.{take_all}
use Rattle.wasm_run.specs.Moves.{CallsOrGrows, MayWant}
use Rattle.run_stack.specs.Calls.{NextIsNoCall}
use Rattle.run_store.specs.Held.{Held}
use Rattle.wasm_sem.specs.declared.Script.{Script}
use Rattle.wasm_sem.specs.declared.Trap.TheVariants.{NoSlot, EmptySlot, WrongType}
use Rattle.wasm_sem.specs.Laws.{slots_in}
use Rattle.wasm_sem.specs.Execution.{Callee, callee_type, callees_of, Instance, instance, Frame, Env, Configuration, configuration, Next, traps, stuck, pop_values, with_ops, invoke, call_popped, call_func, same_func_type, have_same_types, same_type, call_typed, call_slot, call_through, frame_behind, reduce_plain, reduce_code, step, run_of, told_popped, told_call, told_matched, told_typed, told_slot, told_indirect, told_code, told_items, in_slot}
use Rattle.wasm_sem.proofs.Sound.{never_lacks}
use Rattle.wasm_sem.proofs.SoundEntries.{can_link}
use Rattle.run_stack.specs.Flat.{Flat}
use Rattle.run_stack.specs.Kept.{under, Lies}
use Rattle.wasm_run.specs.Reaching.{Reaches, IsAtSlot}
use Rattle.wasm_run.specs.Running.{Innermost, KeepsConfiguration, IsRunning}
use Rattle.run_stack.specs.Standing.{IsCall}

-- ---- the same types

same_length : (ts us : List ValType) → have_same_types ts us ≡ true → length ts ≡ length us
same_length [] [] h = refl
same_length [] (u ∷ us) h = absurd cc
same_length (t ∷ ts) [] h = absurd cc
same_length (t ∷ ts) (u ∷ us) h = let n = same_length ts us (and_parts (same_type t u) (have_same_types ts us) h).1 in omega (arith, n)

-- so are their parameters
pub same_params : (a b : FuncType) → same_func_type a b ≡ true → length a.params ≡ length b.params
same_params a b h = same_length a.params b.params (and_parts (have_same_types a.params b.params) (have_same_types a.results b.results) h).0

-- ---- instructions that are no calls

no_call_before : (i : Instr) (k : Tree) → ((func : ℕ) → i ≡ instrs.Call func → ⊥) → ((ty : ℕ) → i ≡ instrs.CallIndirect ty → ⊥) → NextIsNoCall (before i k)
no_call_before (instrs.Call func) k h g = absurd (h func refl)
no_call_before (instrs.CallIndirect ty) k h g = absurd (g ty refl)
no_call_before i k h g = tt

pub no_call_there : (c : Configuration) (i : Instr) (k : Tree) → ((func : ℕ) → i ≡ instrs.Call func → ⊥) → ((ty : ℕ) → i ≡ instrs.CallIndirect ty → ⊥) → Innermost (λ (fr : Frame). fr.top.rest ≡ before i k) c
    → Innermost (λ (fr : Frame). NextIsNoCall fr.top.rest) c
no_call_there (configuration e []) i k h g at = absurd at
no_call_there (configuration e (fr ∷ below)) i k h g at = subst NextIsNoCall (sym at) (no_call_before i k h g)

module _ (m : Module) (s : Script) (made : ℕ) (f : Flat) (memory : Held) (globals : List Value) (running : IsRunning m s made f memory globals) where
  abbrev inst : Instance
  inst = instance m s

  never : step inst (run_of m s made) ≢ stuck
  never = let l = running.linked in never_lacks m s l.valid l.complete l.range.writes (can_link m s l.links) made

  -- ---- a direct call

  some_called : (e : Env) (fr : Frame) (below : List Frame) (func : ℕ) (k : Tree) (o : Option Callee) → call_func inst e (frame_behind fr k) below fr.top.ops func o ≢ stuck → (called : Callee) × (o ≡ Some called)
  some_called e fr below func k None h = absurd (h refl)
  some_called e fr below func k (Some c) h = (c, refl)

  -- its function is there
  pub direct_there : (func : ℕ) (k : Tree) → Innermost (λ (fr : Frame). fr.top.rest ≡ plain (call func) k) (run_of m s made) → func < length (callees_of m)
  direct_there func k h = go (run_of m s made) refl h
    where
      go : (c : Configuration) → run_of m s made ≡ c → Innermost (λ (fr : Frame). fr.top.rest ≡ plain (call func) k) c → func < length (callees_of m)
      go (configuration e []) at h = absurd h
      go (configuration e (fr ∷ below)) at h =
          let c = some_called e fr below func k (slice_get (callees_of m) func) (subst (λ t. reduce_code inst e fr below t fr.top.ops ≢ stuck) h (subst (λ c. step inst c ≢ stuck) at never)) in
          slice_get_within (callees_of m) func c.0 c.1

  -- and is called
  pub direct_reaches : (func : ℕ) (k : Tree) (called : Callee) → slice_get (callees_of m) func ≡ Some called → Innermost (λ (fr : Frame). fr.top.rest ≡ plain (call func) k) (run_of m s made) → Reaches inst (run_of m s made) None func k called
  direct_reaches func k called at h = go (run_of m s made) h
    where
      go : (c : Configuration) → Innermost (λ (fr : Frame). fr.top.rest ≡ plain (call func) k) c → Reaches inst c None func k called
      go (configuration e []) h = absurd h
      go (configuration e (fr ∷ below)) h = record {
        at = record { instr = instrs.Call func; rest = k; at = h; call = tt };
        ops = fr.top.ops;
        ops_are = refl;
        callee = at;
        next_is = ap (λ t. reduce_code inst e fr below t fr.top.ops) h ∙ ap (call_func inst e (frame_behind fr k) below fr.top.ops func) at;
        told_is = ap (λ t. told_code inst e t fr.top.ops) h ∙ ap (told_call inst e fr.top.ops func) at;
      }

  -- ---- a call through a slot

  module _ (ty : ℕ) (k : Tree) where
    -- the frame that calls, with the number of the slot, the type that is asked for and the arguments
    pub record Through : Type 0 where
      pub env : Env
      pub frame : Frame
      pub below : List Frame
      pub slot : ℕ
      pub ops : List Value
      pub type : FuncType
      pub args : List Value
      pub rest : List Value
      pub at : run_of m s made ≡ configuration env (frame ∷ below)
      pub lies : Lies f (frame ∷ below)
      pub code_is : frame.top.rest ≡ plain (call_indirect ty) k
      pub ops_are : frame.top.ops ≡ I32 slot ∷ ops
      pub type_is : slice_get m.types ty ≡ Some type
      pub popped : pop_values (length type.params) ops [] ≡ Some (args, rest)
      pub next_is : step inst (configuration env (frame ∷ below)) ≡ call_slot inst env (frame_behind frame k) below type (slice_get env.store.slots slot) (Some (args, rest))
      pub told_is : told_code inst env frame.top.rest frame.top.ops ≡ told_slot inst env ops type (in_slot (slice_get env.store.slots slot))

    record Found (e : Env) (fr : Frame) (below : List Frame) (o : List Value) : Type 0 where
      slot : ℕ
      ops : List Value
      type : FuncType
      args : List Value
      rest : List Value
      ops_are : o ≡ I32 slot ∷ ops
      type_is : slice_get m.types ty ≡ Some type
      popped : pop_values (length type.params) ops [] ≡ Some (args, rest)

    slot_found : (e : Env) (fr : Frame) (below : List Frame) (i : ℕ) (o : List Value) (t : FuncType) (p : Option (List Value × List Value)) → call_slot inst e (frame_behind fr k) below t (slice_get e.store.slots i) p ≢ stuck
        → (args : List Value) × (rest : List Value) × (p ≡ Some (args, rest))
    slot_found e fr below i o t None h = absurd (h refl)
    slot_found e fr below i o t (Some p) h = (p.0, p.1, refl)

    type_found : (e : Env) (fr : Frame) (below : List Frame) (i : ℕ) (o : List Value) (t : Option FuncType) → slice_get m.types ty ≡ t → call_through inst e (frame_behind fr k) below i o t ≢ stuck → Found e fr below (I32 i ∷ o)
    type_found e fr below i o None at h = absurd (h refl)
    type_found e fr below i o (Some t) at h =
        let p = slot_found e fr below i o t (pop_values (length t.params) o []) h in
        record { slot = i; ops = o; type = t; args = p.0; rest = p.1; ops_are = refl; type_is = at; popped = p.2 }

    found : (e : Env) (fr : Frame) (below : List Frame) (o : List Value) → reduce_plain inst e (frame_behind fr k) below (call_indirect ty) o ≢ stuck → Found e fr below o
    found e fr below [] h = absurd (h refl)
    found e fr below (I64 i ∷ o) h = absurd (h refl)
    found e fr below (I32 i ∷ o) h = type_found e fr below i o (slice_get m.types ty) refl h

    pub through : Innermost (λ (fr : Frame). fr.top.rest ≡ plain (call_indirect ty) k) (run_of m s made) → Through
    through h = go (run_of m s made) refl running.keeps h
      where
        go : (c : Configuration) → run_of m s made ≡ c → KeepsConfiguration m s c f memory globals → Innermost (λ (fr : Frame). fr.top.rest ≡ plain (call_indirect ty) k) c → Through
        go (configuration e []) at keeps h = absurd h
        go (configuration e (fr ∷ below)) at (lies, store, room) h =
            let x = found e fr below fr.top.ops (subst (λ t. reduce_code inst e fr below t fr.top.ops ≢ stuck) h (subst (λ c. step inst c ≢ stuck) at never)) in
            record {
              env = e;
              frame = fr;
              below = below;
              slot = x.slot;
              ops = x.ops;
              type = x.type;
              args = x.args;
              rest = x.rest;
              at = at;
              lies = lies;
              code_is = h;
              ops_are = x.ops_are;
              type_is = x.type_is;
              popped = x.popped;
              next_is = ap₂ (λ t o. reduce_code inst e fr below t o) h x.ops_are ∙ ap (call_through inst e (frame_behind fr k) below x.slot x.ops) x.type_is
                  ∙ ap (call_slot inst e (frame_behind fr k) below x.type (slice_get e.store.slots x.slot)) x.popped;
              told_is = ap₂ (λ t o. told_code inst e t o) h x.ops_are ∙ ap (told_indirect inst e x.slot x.ops) x.type_is;
            }

    module _ (x : Through) where
      -- the number of the slot is on top
      pub on_top : f.values ≡ I32 x.slot ∷ (x.ops ++ under x.frame x.below)
      on_top = x.lies.values ∙ ap (λ o. o ++ under x.frame x.below) x.ops_are

      pub at_slot : (i : ℕ) → slice_get f.values 0 ≡ Some (I32 i) → x.slot ≡ i
      at_slot i h = ap number (same_Some (I32 x.slot) (I32 i) (sym (ap (λ vs. slice_get vs 0) on_top) ∙ h))
        where
          number : Value → ℕ
          number (I32 n) = n
          number (I64 n) = n

      pub innermost_at : (i : ℕ) → slice_get f.values 0 ≡ Some (I32 i) → Innermost (IsAtSlot ty k i) (run_of m s made)
      innermost_at i h =
          subst (Innermost (IsAtSlot ty k i)) (sym x.at)
          (record { at = x.code_is; ops = x.ops; ops_are = x.ops_are ∙ ap (λ n. I32 n ∷ x.ops) (at_slot i h) })

      slot_is : (i : ℕ) → slice_get f.values 0 ≡ Some (I32 i) → (o : Option (Option ℕ)) → slice_get (slots_in (run_of m s made)) i ≡ o → slice_get x.env.store.slots x.slot ≡ o
      slot_is i top o h = ap (slice_get x.env.store.slots) (at_slot i top) ∙ sym (ap (λ c. slice_get (slots_in c) i) x.at) ∙ h

      -- there is no such slot, or it is empty
      pub no_slot : (i : ℕ) → slice_get f.values 0 ≡ Some (I32 i) → slice_get (slots_in (run_of m s made)) i ≡ None → (step inst (run_of m s made) ≡ traps NoSlot) × (told_items inst (run_of m s made) ≡ [])
      no_slot i top h = (
        ap (step inst) x.at ∙ x.next_is ∙ ap (λ o. call_slot inst x.env (frame_behind x.frame k) x.below x.type o (Some (x.args, x.rest))) (slot_is i top None h),
        ap (told_items inst) x.at ∙ x.told_is ∙ ap (λ o. told_slot inst x.env x.ops x.type (in_slot o)) (slot_is i top None h),
      )

      pub empty_slot : (i : ℕ) → slice_get f.values 0 ≡ Some (I32 i) → slice_get (slots_in (run_of m s made)) i ≡ Some None → (step inst (run_of m s made) ≡ traps EmptySlot) × (told_items inst (run_of m s made) ≡ [])
      empty_slot i top h = (
        ap (step inst) x.at ∙ x.next_is ∙ ap (λ o. call_slot inst x.env (frame_behind x.frame k) x.below x.type o (Some (x.args, x.rest))) (slot_is i top (Some None) h),
        ap (told_items inst) x.at ∙ x.told_is ∙ ap (λ o. told_slot inst x.env x.ops x.type (in_slot o)) (slot_is i top (Some None) h),
      )

  -- ---- the function of the slot

  module _ (ty : ℕ) (k : Tree) (i func : ℕ) (here : Innermost (IsAtSlot ty k i) (run_of m s made)) (there : slice_get (slots_in (run_of m s made)) i ≡ Some (Some func)) where
    at_code : (c : Configuration) → Innermost (IsAtSlot ty k i) c → Innermost (λ (fr : Frame). fr.top.rest ≡ plain (call_indirect ty) k) c
    at_code (configuration e []) h = absurd h
    at_code (configuration e (fr ∷ below)) h = h.at

    abbrev y : Through ty k
    y = through ty k (at_code (run_of m s made) here)

    number_is : (c : Configuration) (e : Env) (fr : Frame) (below : List Frame) (n : ℕ) (o : List Value) → c ≡ configuration e (fr ∷ below) → fr.top.ops ≡ I32 n ∷ o → Innermost (IsAtSlot ty k i) c → n ≡ i
    number_is c e fr below n o at ops h = go (subst (Innermost (IsAtSlot ty k i)) at h)
      where
        number : List Value → ℕ
        number (I32 n ∷ o) = n
        number _ = 0

        go : IsAtSlot ty k i fr → n ≡ i
        go h = ap number (sym ops ∙ h.ops_are)

    same_slot : y.slot ≡ i
    same_slot = number_is (run_of m s made) y.env y.frame y.below y.slot y.ops y.at y.ops_are here

    found_there : slice_get y.env.store.slots y.slot ≡ Some (Some func)
    found_there = ap (slice_get y.env.store.slots) same_slot ∙ sym (ap (λ c. slice_get (slots_in c) i) y.at) ∙ there

    abbrev typed_by : Option Callee → Next
    typed_by o = call_typed inst y.env (with_ops (frame_behind y.frame k) y.rest ∷ y.below) y.type func o y.args

    typed_next : step inst (configuration y.env (y.frame ∷ y.below)) ≡ typed_by (slice_get (callees_of m) func)
    typed_next = y.next_is ∙ ap (λ o. call_slot inst y.env (frame_behind y.frame k) y.below y.type o (Some (y.args, y.rest))) found_there

    some_typed : (o : Option Callee) → slice_get (callees_of m) func ≡ o → typed_by o ≢ stuck → func < length (callees_of m)
    some_typed None at h = absurd (h refl)
    some_typed (Some c) at h = slice_get_within (callees_of m) func c at

    pub slot_there : func < length (callees_of m)
    slot_there = some_typed (slice_get (callees_of m) func) refl (subst (λ n. n ≢ stuck) typed_next (subst (λ c. step inst c ≢ stuck) y.at never))

    pub type_there : ty < length m.types
    type_there = slice_get_within m.types ty y.type y.type_is

    module _ (called : Callee) (at : slice_get (callees_of m) func ≡ Some called) (t : FuncType) (asked : slice_get m.types ty ≡ Some t) where
      type_same : y.type ≡ t
      type_same = same_Some y.type t (sym y.type_is ∙ asked)

      told_here : told_code inst y.env y.frame.top.rest y.frame.top.ops ≡ told_matched inst y.env (same_func_type (callee_type called) y.type) func called (pop_values (length y.type.params) y.ops [])
      told_here = y.told_is ∙ ap (λ o. told_slot inst y.env y.ops y.type (in_slot o)) found_there ∙ ap (told_typed inst y.env y.ops y.type func) at

      -- of the type that is asked for
      pub slot_reaches : same_func_type (callee_type called) t ≡ true → Reaches inst (run_of m s made) (Some i) func k called
      slot_reaches same =
          let same_y : same_func_type (callee_type called) y.type ≡ true = ap (same_func_type (callee_type called)) type_same ∙ same in
          let args_y : pop_values (length (callee_type called).params) y.ops [] ≡ Some (y.args, y.rest) = ap (λ n. pop_values n y.ops []) (same_params (callee_type called) y.type same_y) ∙ y.popped in
          subst (λ c. Reaches inst c (Some i) func k called) (sym y.at) (record {
            at = record { instr = instrs.CallIndirect ty; rest = k; at = y.code_is; call = tt };
            ops = y.ops;
            ops_are = y.ops_are ∙ ap (λ n. I32 n ∷ y.ops) same_slot;
            callee = at;
            next_is = typed_next ∙ ap typed_by at
                ∙ ap (λ b. cond b (invoke inst y.env (with_ops (frame_behind y.frame k) y.rest ∷ y.below) func called y.args) (traps WrongType)) same_y
                ∙ ap (call_popped inst y.env (frame_behind y.frame k) y.below func called) (sym args_y);
            told_is = told_here ∙ ap (λ b. told_matched inst y.env b func called (pop_values (length y.type.params) y.ops [])) same_y
                ∙ ap (told_popped inst y.env func called) (y.popped ∙ sym args_y);
          })

      -- of another type
      pub slot_wrong : same_func_type (callee_type called) t ≡ false → (step inst (run_of m s made) ≡ traps WrongType) × (told_items inst (run_of m s made) ≡ [])
      slot_wrong other =
          let other_y : same_func_type (callee_type called) y.type ≡ false = ap (same_func_type (callee_type called)) type_same ∙ other in (
            ap (step inst) y.at ∙ typed_next ∙ ap typed_by at
                ∙ ap (λ b. cond b (invoke inst y.env (with_ops (frame_behind y.frame k) y.rest ∷ y.below) func called y.args) (traps WrongType)) other_y,
            ap (told_items inst) y.at ∙ told_here ∙ ap (λ b. told_matched inst y.env b func called (pop_values (length y.type.params) y.ops [])) other_y,
          )

-- the first instruction of a sequence, and the others
pub first_before : (is : List Instr) (i : Instr) → 1 ≤ length is → i ≡ slice_index_or is 0 i → code_of is ≡ before i (code_of (take (length is - 1) (drop 1 is)))
first_before [] i h e = absurd (omega (arith, h))
first_before (j ∷ is) i h e = ap₂ (λ (j : Instr) (is : List Instr). before j (code_of is)) (sym e) (sym (take_all (length (j ∷ is) - 1) is (omega arith)))

call_wants : (i : Instr) (k : Tree) → IsCall i → CallsOrGrows (before i k)
call_wants (instrs.Call f) k h = tt
call_wants (instrs.CallIndirect x) k h = tt
call_wants _ k h = absurd h

-- at a call memory may be wanting
pub reaches_wants : (inst : Instance) (c : Configuration) (slot : Option ℕ) (func : ℕ) (k : Tree) (called : Callee) → Reaches inst c slot func k called → MayWant c
reaches_wants inst (configuration e []) slot func k called h = absurd h
reaches_wants inst (configuration e (fr ∷ below)) slot func k called h = inl (subst CallsOrGrows (sym h.at.at) (call_wants h.at.instr h.at.rest h.at.call))
