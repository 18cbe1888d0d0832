-- What a state has for an item that is fit for it, and what the item makes of it.
use Rattle.std.proofs.Common.{◌≡◌, subst, ℕ, zero, suc, ◌+◌, ◌≤◌, List, [], ◌∷◌, ◌++◌, Option, Some, None, IsSome, Bool, true, false, length, set, slice_get, option_and_then, take, drop, refl, sym, ap, ◌∙◌, arith, append_assoc}
use Rattle.std.specs.Prelude.{reverse}
use Rattle.std.proofs.lemmas.List.{reverse-append, map-set}
use Rattle.wasm_sem.specs.Types.{NumOp, ValType, LoadOp, Value, Loc, Module, Event}
use Rattle.wasm_num.specs.declared.ValType.TheVariants as types
use Rattle.module_ast.specs.Memory.{load_value}
use Rattle.module_ast.specs.Validation.{load_type, load_width, push}
use Rattle.wasm_num.specs.Shapes.{num_operands, num_result}
use Rattle.module_ast.specs.declared.ops.VarOp.TheVariants.{Set}
use Rattle.hook_select.specs.declared.Event.TheVariants as events
use Rattle.hook_mono.specs.Words.{type_of}
use Rattle.shadow_replay.specs.declared.Warning.{Warning}
use Rattle.shadow_replay.specs.declared.marked.Marked.{Marked}
use Rattle.wasm_sem.specs.Execution.{pop_values, TraceItem, event}
use Rattle.shadow_replay.specs.Shadow.{ShadowFrame, Shadow, have_types, have_type, if_true, if_alike, if_there, writes_global, with_operands, with_swapped, swap_in, swap}
use Rattle.shadow_replay.specs.Events.{event_effect, item_marks, tainted_effect}
use Rattle.shadow_replay.specs.Taint.{Watch, join, some_marked, nth_mark, read_mark}
use Rattle.shadow_replay.specs.Tainted.{TaintedShadow, with_marks, move}
use Rattle.shadow_replay.specs.Replayed.{Replay, with_standing, standing_in, PreparedLocals, HeldOperands, shadow_seen, Becomes, TakesItem, IsFitEvent, number_effect, number_taken}
use Rattle.shadow_replay.specs.Stacked.{values_in, marks_in, Standing, Has, exchanged_in, exchanged}

-- where something is tested and there
pub some_if : (b : Bool) (x : Option Shadow) → IsSome (if_true b x) → (if_true b x ≡ x) × IsSome x
some_if true x h = (refl, h)
some_if false x h = absurd cc

pub some_alike : (old : Option Value) (v : Value) (x : Option Shadow) → IsSome (if_alike old v x) → if_alike old v x ≡ x
some_alike None v x h = absurd cc
some_alike (Some old) v x h = (some_if (have_type (type_of old) v) x h).0

-- what something is made of is there, where nothing is made of nothing
pub some_of : {A B : Type 0} (of : Option A → Option B) → of None ≡ None → (o : Option A) → IsSome (of o) → IsSome o
some_of of none None h = absurd cc
some_of of none (Some a) h = refl

-- ---- operands

pub record Popped (n : ℕ) (o t : List Value) : Type 0 where
  pub within : n ≤ length o
  pub is : pop_values n o t ≡ Some (reverse (take n o) ++ t, drop n o)

pub popped : (n : ℕ) (o t : List Value) → IsSome (pop_values n o t) → Popped n o t
popped zero o t h = record { within = omega arith; is = refl }
popped (suc n) [] t h = absurd cc
popped (suc n) (v ∷ o) t h =
    let p = popped n o (v ∷ t) h in
    record {
      within = omega (arith, p.within);
      is = p.is ∙ ap (λ vs. Some (vs, drop n o)) (sym (append_assoc (reverse (take n o)) (v ∷ []) t) ∙ ap (λ vs. vs ++ t) (sym (reverse-append (v ∷ []) (take n o))));
    }

pub push_is : (vs o : List Value) → push vs o ≡ reverse vs ++ o
push_is [] o = refl
push_is (v ∷ vs) o = push_is vs (v ∷ o) ∙ (sym (append_assoc (reverse vs) (v ∷ []) o) ∙ ap (λ us. us ++ o) (sym (reverse-append (v ∷ []) vs)))

-- what is made of them
pub popped_of : {A : Type 0} (of : Option (List Value × List Value) → Option A) → of None ≡ None → (n : ℕ) (o : List Value) → IsSome (of (pop_values n o []))
    → Popped n o [] × IsSome (of (Some (reverse (take n o) ++ [], drop n o)))
popped_of {A} of none n o h =
    let p = popped n o [] (some_of of none (pop_values n o []) h) in
    (p, subst (λ (a : Option A). IsSome a) (ap of p.is) h)

pub record Swaps (ts : List ValType) (vs : List Value) (sh : Shadow) (fs : List ShadowFrame) : Type 0 where
  pub has : Has (length ts) fs
  pub is : swap_in fs ts vs sh ≡ Some (record sh { frames = exchanged_in (length ts) (reverse vs) fs })

pub swapped : (ts : List ValType) (vs : List Value) (sh : Shadow) (fs : List ShadowFrame) → IsSome (swap_in fs ts vs sh) → Swaps ts vs sh fs
swapped ts vs sh [] h = absurd cc
swapped ts vs sh (fr ∷ below) h =
    let n = length ts in
    let o = fr.top.ops in
    let p = popped_of (with_swapped sh fr below ts vs) refl n o h in
    record {
      has = p.0.within;
      is = ap (with_swapped sh fr below ts vs) p.0.is
          ∙ (some_if (have_types ts (reverse (take n o) ++ [])) (Some (with_operands sh fr below (push vs (drop n o)))) p.1).0
          ∙ ap (λ o. Some (with_operands sh fr below o)) (push_is vs (drop n o));
    }

-- ---- items

-- the state that a function sees
abbrev pub seen_in : {seen old : Replay} → seen ≡ old → Replay
seen_in {seen} e = seen

-- what is made of a state that is seen so
pub becomes : (of : Replay → Option TaintedShadow) (seen old new : Replay) → seen ≡ old → of seen ≡ Some new.shadow → new.module ≡ seen.module → new.limit ≡ seen.limit → new.watch ≡ seen.watch → Becomes (of old) old new
becomes of seen old new e h m l w = record {
  effect = subst (λ (r : Replay). of r ≡ Some new.shadow) e h;
  «module» = m ∙ ap (λ (r : Replay). r.module) e;
  limit = l ∙ ap (λ (r : Replay). r.limit) e;
  watch = w ∙ ap (λ (r : Replay). r.watch) e;
}

pub takes : (i : TraceItem) (seen old new : Replay) → seen ≡ old → tainted_effect seen.module seen.limit seen.watch seen.shadow i ≡ Some new.shadow → new.module ≡ seen.module → new.limit ≡ seen.limit → new.watch ≡ seen.watch → TakesItem i old new
takes i = becomes (λ (r : Replay). tainted_effect r.module r.limit r.watch r.shadow i)

-- an event that is fit
pub takes_event : (e is : Event) (seen old new : Replay) → seen ≡ old → e ≡ is → IsFitEvent e old
    → (IsFitEvent is seen → tainted_effect seen.module seen.limit seen.watch seen.shadow (event is) ≡ Some new.shadow)
    → new.module ≡ seen.module → new.limit ≡ seen.limit → new.watch ≡ seen.watch → TakesItem (event e) old new
takes_event e is seen old new sees same fit made m l w =
    subst (λ (e : Event). TakesItem (event e) old new) (sym same)
    (takes (event is) seen old new sees (made (subst (IsFitEvent is) (sym sees) (subst (λ (e : Event). IsFitEvent e old) same fit))) m l w)

pub number_is : (op : NumOp) (r : Value) (sh : Shadow) → IsSome (number_effect op r sh) → Swaps (num_operands op) (r ∷ []) sh sh.frames
number_is op r sh h = swapped (num_operands op) (r ∷ []) sh sh.frames (some_if (have_type (num_result op) r) (swap (num_operands op) (r ∷ []) sh) h).1

pub number_takes : (op : NumOp) (r : Value) (k : Bool) (n : ℕ) (st : Standing) (sh : TaintedShadow) → IsSome (number_effect op r sh.state) → n ≡ length (num_operands op) → k ≡ some_marked (take n sh.marks.taint.operands)
    → st ≡ exchanged n (record { value = r; mark = k } ∷ []) (standing_in sh) → number_taken op r sh ≡ Some (with_standing st sh)
number_takes op r k n st sh h count mark is =
    let after : ℕ → Bool → Option TaintedShadow = λ n k. Some (with_standing (exchanged n (record { value = r; mark = k } ∷ []) (standing_in sh)) sh) in
    ap (with_marks (move (join (length (num_operands op))) sh.marks)) ((some_if (have_type (num_result op) r) (swap (num_operands op) (r ∷ []) sh.state) h).0 ∙ (number_is op r sh.state h).is)
    ∙ (ap (λ n. after n (some_marked (take n sh.marks.taint.operands))) (sym count) ∙ (ap (after n) (sym mark) ∙ ap (λ st. Some (with_standing st sh)) (sym is)))

-- a global that is there is set to what stands on top
module _ (m : Module) (limit : ℕ) (w : Watch) (memory : List ℕ) (ks : List Bool) (gs : List Marked) (st st2 : Standing) (p : Option PreparedLocals) (h : Option HeldOperands) (g : Option (List Marked)) (ws : List Warning) where
  pub global_set : (l : Loc) (x : ℕ) (v : Value) (k : Bool) → IsSome (event_effect m limit (shadow_seen memory ks gs st p h g ws).state (events.Global l Set x v)) → k ≡ nth_mark st.operands 0 → st2 ≡ exchanged 1 [] st
      → tainted_effect m limit w (shadow_seen memory ks gs st p h g ws) (event (events.Global l Set x v)) ≡ Some (shadow_seen memory ks (set gs x (record { value = v; mark = k })) st2 p h g ws)
  global_set l x v k fit e q =
      let sh = (shadow_seen memory ks gs st p h g ws).state in
      let marks2 = item_marks m w sh (event (events.Global l Set x v)) (shadow_seen memory ks gs st p h g ws).marks in
      let s = swapped (type_of v ∷ []) [] sh sh.frames (some_of (option_and_then (writes_global x v)) refl (swap (type_of v ∷ []) [] sh) fit) in
      let next : Shadow = record sh { frames = exchanged_in 1 [] st.frames } in
      let written = some_alike (slice_get (values_in gs) x) v (Some (record next { globals = set (values_in gs) x v })) (subst (λ o. IsSome (option_and_then (writes_global x v) o)) s.is fit) in
      ap (with_marks marks2) (ap (option_and_then (writes_global x v)) s.is ∙ written)
      ∙ (ap (λ vs. with_globals vs (set (marks_in gs) x (nth_mark st.operands 0)) (exchanged 1 [] st)) (sym (map-set (λ (m : Marked). m.value) gs x (record { value = v; mark = k })))
      ∙ (ap (λ bs. with_globals (values_in (set gs x (record { value = v; mark = k }))) bs (exchanged 1 [] st)) (ap (set (marks_in gs) x) (sym e) ∙ sym (map-set (λ (m : Marked). m.mark) gs x (record { value = v; mark = k })))
      ∙ ap (with_globals (values_in (set gs x (record { value = v; mark = k }))) (marks_in (set gs x (record { value = v; mark = k })))) (sym q)))
    where
      with_globals : List Value → List Bool → Standing → Option TaintedShadow
      with_globals vs bs st = Some (record {
        state = record (shadow_seen memory ks gs st p h g ws).state { globals = vs };
        marks = record (shadow_seen memory ks gs st p h g ws).marks { taint = record (shadow_seen memory ks gs st p h g ws).marks.taint { globals = bs } };
      })

some_there : {A : Type 0} (a : Option A) (x : Option Shadow) → IsSome (if_there a x) → if_there a x ≡ x
some_there None x h = absurd cc
some_there (Some a) x h = refl

-- a load
pub load_takes : (m : Module) (limit : ℕ) (w : Watch) (sh : TaintedShadow) (st : Standing) (l : Loc) (op : LoadOp) (offset a : ℕ) (v : Value) (k : Bool) → IsSome (event_effect m limit sh.state (events.Load l op offset a v))
    → k ≡ read_mark (a + offset) (load_width op) sh.marks.taint → st ≡ exchanged 1 (record { value = v; mark = k } ∷ []) (standing_in sh) → tainted_effect m limit w sh (event (events.Load l op offset a v)) ≡ Some (with_standing st sh)
load_takes m limit w sh st l op offset a v k fit e q =
    let swapping = swap (types.I32 ∷ []) (v ∷ []) sh.state in
    let loaded = load_value op (a + offset) sh.state.memory in
    let first = some_if (have_type (load_type op) v) (if_there loaded swapping) fit in
    let second = some_there loaded swapping first.1 in
    let s = swapped (types.I32 ∷ []) (v ∷ []) sh.state sh.state.frames (subst (λ (o : Option Shadow). IsSome o) second first.1) in
    ap (with_marks (item_marks m w sh.state (event (events.Load l op offset a v)) sh.marks)) (first.0 ∙ (second ∙ s.is))
    ∙ (ap (λ k. Some (with_standing (exchanged 1 (record { value = v; mark = k } ∷ []) (standing_in sh)) sh)) (sym e) ∙ ap (λ st. Some (with_standing st sh)) (sym q))
