-- What entries and calls make of a state that they are fit for.
use Rattle.std.proofs.Common.{◌≡◌, ℕ, ◌+◌, List, [], ◌∷◌, ◌++◌, Option, Some, None, IsSome, option_and_then, Bool, true, false, cond, length, take, drop, get_or, slice_get, arith, refl, sym, ap, ◌∙◌, subst, append-nil}
use Rattle.std.specs.Prelude.{reverse}
use Rattle.std.proofs.lemmas.List.{length-drop, drop-drop}
use Rattle.std.proofs.lemmas.Option.{get_or_from_slice_get}
use Rattle.wasm_sem.specs.Types.{ValType, Value, FuncType, Loc, Module}
use Rattle.wasm_num.specs.declared.ValType.TheVariants as types
use Rattle.wasm_sem.specs.Execution.{Callee, callee_type, callees_of, same_func_type, entry}
use Rattle.shadow_replay.specs.declared.marked.Marked.{Marked}
use Rattle.shadow_replay.specs.Shadow.{ShadowFrame, Shadow, have_types, with_prepared, takes_arguments, calls_callee, calls_typed, swap, prepared_locals, prepared_typed, prepared_slot, enters}
use Rattle.shadow_replay.specs.Events.{effect, tainted_effect}
use Rattle.shadow_replay.specs.Stacked.{values_in, marks_in, Has, exchanged_in, exchanged, top_operands, AreOperandsBelow}
use Rattle.shadow_replay.specs.Taint.{Watch, each_marked, exchange, no_frames}
use Rattle.shadow_replay.specs.Tainted.{PreparedMarks, TaintedShadow, move, calls_marks, calls_typed_marks, enters_marks, local_marks, prepared_marks, typed_marks, slot_marks, with_marks}
use Rattle.shadow_replay.specs.Resolved.{begun_with}
use Rattle.shadow_replay.specs.Replayed.{Replay, PreparedLocals, with_standing, standing_in, marked_values, values_prepared, marks_prepared, Prepares, called_through, slot_called}
use Rattle.shadow_replay.proofs.ShadowEnds.{top_past}
use Rattle.shadow_replay.proofs.ShadowTakes.{some_if, some_of, popped_of, Swaps, swapped}
use Rattle.shadow_replay.proofs.ShadowHosts.{marked_is, marked_so}
use Rattle.shadow_replay.proofs.ZeroLocals.{begun_values, begun_marks}

-- ---- entries

abbrev entering : List Value → List Bool → TaintedShadow → TaintedShadow
entering vs ks sh = record {
  state = record sh.state { frames = []; prepared = Some vs; held = None; given = None };
  marks = record { taint = no_frames sh.marks.taint; prepared = Some (record { call = None; marks = ks }); held = []; given = [] };
}

pub enter_is : (m : Module) (limit : ℕ) (w : Watch) (sh : TaintedShadow) (f : ℕ) (args : List Value) (c : Callee) → slice_get (callees_of m) f ≡ Some c → IsSome (effect m limit sh.state (entry (record { func = f; args = args })))
    → tainted_effect m limit w sh (entry (record { func = f; args = args }))
    ≡ Some (entering (values_in (begun_with c (marked_values false args))) (marks_in (begun_with c (marked_values false args))) sh)
enter_is m limit w sh f args c e h =
    let ms = marked_values false args in
    let fit = subst (λ c. IsSome (enters sh.state args c)) e h in
    let with_locals : List Value → List Bool → Option TaintedShadow = λ vs ks. Some (entering vs ks sh) in
    ap (λ c. with_marks (enters_marks args c sh.marks) (enters sh.state args c)) e
    ∙ (ap (with_marks (enters_marks args (Some c) sh.marks)) (some_if (have_types (callee_type c).params args) (Some (record sh.state { frames = []; prepared = Some (prepared_locals c args); held = None; given = None })) fit).0
    ∙ (ap (λ vs. with_locals vs (local_marks c (each_marked false args))) (ap (prepared_locals c) (sym (marked_is false args)) ∙ sym (begun_values c ms))
    ∙ ap (with_locals (values_in (begun_with c ms))) (ap (local_marks c) (sym (marked_so false args)) ∙ sym (begun_marks c ms))))

-- ---- calls

abbrev Taken : Shadow → List ShadowFrame → List ValType → (List Value → Option (List Value)) → Type 0
Taken sh fs ts prepared =
    Has (length ts) fs × (takes_arguments sh fs ts prepared ≡ Some (record sh { frames = exchanged_in (length ts) [] fs; prepared = prepared (reverse (take (length ts) (top_operands fs))) }))

taken : (sh : Shadow) (fs : List ShadowFrame) (ts : List ValType) (prepared : List Value → Option (List Value)) → IsSome (takes_arguments sh fs ts prepared) → Taken sh fs ts prepared
taken sh [] ts prepared h = absurd cc
taken sh (fr ∷ below) ts prepared h =
    let n = length ts in
    let o = fr.top.ops in
    let p = popped_of (with_prepared sh fr below ts prepared) refl n o h in
    let with_args : List Value → Option Shadow = λ args. Some (record sh { frames = exchanged_in n [] (fr ∷ below); prepared = prepared args }) in (
      p.0.within,
      ap (with_prepared sh fr below ts prepared) p.0.is ∙ (some_if (have_types ts (reverse (take n o) ++ [])) (with_args (reverse (take n o) ++ [])) p.1).0
          ∙ ap with_args (append-nil (reverse (take n o))),
    )

pub call_has : (sh : Shadow) (c : Callee) → IsSome (calls_callee sh (Some c)) → Has (length (callee_type c).params) sh.frames
call_has sh c h = (taken sh sh.frames (callee_type c).params (λ args. Some (prepared_locals c args)) h).0

abbrev calling : ℕ → Option (List Value) → Option PreparedMarks → TaintedShadow → TaintedShadow
calling n vs ks sh = record {
  state = record (with_standing (exchanged n [] (standing_in sh)) sh).state { prepared = vs };
  marks = record (with_standing (exchanged n [] (standing_in sh)) sh).marks { prepared = ks };
}

pub call_is : (l : Loc) (sh : TaintedShadow) (c : Callee) (ms : List Marked) → IsSome (calls_callee sh.state (Some c)) → AreOperandsBelow 0 (length (callee_type c).params) ms (standing_in sh)
    → with_marks (calls_marks l (Some c) sh.marks) (calls_callee sh.state (Some c))
    ≡ Some (calling (length (callee_type c).params) (Some (values_in (begun_with c ms))) (Some (record { call = Some l; marks = marks_in (begun_with c ms) })) sh)
call_is l sh c ms h r =
    let n = length (callee_type c).params in
    let with_locals : List Value → List Bool → Option TaintedShadow = λ vs ks. Some (calling n (Some vs) (Some (record { call = Some l; marks = ks })) sh) in
    ap (with_marks (calls_marks l (Some c) sh.marks)) (taken sh.state sh.state.frames (callee_type c).params (λ args. Some (prepared_locals c args)) h).1
    ∙ (ap (λ vs. with_locals vs (local_marks c (reverse (take n sh.marks.taint.operands)))) (ap (prepared_locals c) (sym r.values) ∙ sym (begun_values c ms))
    ∙ ap (with_locals (values_in (begun_with c ms))) (ap (local_marks c) (sym r.marks) ∙ sym (begun_marks c ms)))

-- ---- calls through a slot

-- the type that is asked for is there, and so are the slot's number and the arguments
slot_type : (m : Module) (f : Option ℕ) (ty : Option FuncType) (sh : Option Shadow) → IsSome (option_and_then (calls_typed m f ty) sh) → IsSome ty
slot_type m f (Some ty) sh h = refl
slot_type m f None None h = absurd cc
slot_type m f None (Some sh) h = absurd cc

-- what is read at a place where there is something
found_at : {A : Type 0} (xs : List A) (i : ℕ) (x : A) → IsSome (slice_get xs i) → x ≡ get_or xs i x → slice_get xs i ≡ Some x
found_at {A} xs i x h e = go (slice_get xs i) refl h
  where
    go : (o : Option A) → slice_get xs i ≡ o → IsSome o → o ≡ Some x
    go None q h = absurd cc
    go (Some y) q h = ap (λ z. Some z) (sym (e ∙ get_or_from_slice_get xs i y x q))

has_more : (n : ℕ) (fs : List ShadowFrame) → Has 1 fs → Has n (exchanged_in 1 [] fs) → Has (1 + n) fs
has_more n [] h k = absurd h
has_more n (fr ∷ below) h k = omega (arith, h, k, length-drop 1 fr.top.ops)

exchanged_twice : (n : ℕ) (fs : List ShadowFrame) → exchanged_in n [] (exchanged_in 1 [] fs) ≡ exchanged_in (1 + n) [] fs
exchanged_twice n [] = refl
exchanged_twice n (fr ∷ below) = ap (λ o. (let t : ShadowFrame = record fr { top = record fr.top { ops = o } } in t) ∷ below) (drop-drop n 1 fr.top.ops)

-- the state without the slot's number
module _ (m : Module) (f : Option ℕ) (ty : FuncType) (sh : Shadow) (h : IsSome (option_and_then (calls_typed m f (Some ty)) (swap (types.I32 ∷ []) [] sh))) where
  abbrev n : ℕ
  n = length ty.params

  abbrev past : Shadow
  past = record sh { frames = exchanged_in 1 [] sh.frames }

  first : Swaps (types.I32 ∷ []) [] sh sh.frames
  first = swapped (types.I32 ∷ []) [] sh sh.frames (some_of (option_and_then (calls_typed m f (Some ty))) refl (swap (types.I32 ∷ []) [] sh) h)

  second : Taken past past.frames ty.params (prepared_slot m ty f)
  second = taken past past.frames ty.params (prepared_slot m ty f) (subst (λ (o : Option Shadow). IsSome (option_and_then (calls_typed m f (Some ty)) o)) first.is h)

  slot_has : Has (1 + n) sh.frames
  slot_has = has_more n sh.frames first.has second.0

  slot_state : option_and_then (calls_typed m f (Some ty)) (swap (types.I32 ∷ []) [] sh)
      ≡ Some (record sh { frames = exchanged_in (1 + n) [] sh.frames; prepared = prepared_slot m ty f (reverse (take n (drop 1 (top_operands sh.frames)))) })
  slot_state =
      ap (option_and_then (calls_typed m f (Some ty))) first.is ∙ (second.1
      ∙ (ap (λ fs. (let t : Option Shadow = Some (record sh { frames = fs; prepared = prepared_slot m ty f (reverse (take n (top_operands past.frames))) }) in t)) (exchanged_twice n sh.frames)
      ∙ ap (λ o. (let t : Option Shadow = Some (record sh { frames = exchanged_in (1 + n) [] sh.frames; prepared = prepared_slot m ty f (reverse (take n o)) }) in t)) (top_past 1 sh.frames)))

-- a call through a slot that is fit finds the type that is asked for, the slot's number and the arguments
pub record SlotRoom (r : Replay) (ty : ℕ) (f : Option ℕ) (asked : FuncType) : Type 0 where
  pub type : slice_get r.module.types ty ≡ Some asked
  pub fit : IsSome (option_and_then (calls_typed r.module f (Some asked)) (swap (types.I32 ∷ []) [] r.shadow.state))
  pub has : Has (1 + length asked.params) r.shadow.state.frames

pub slot_room : (r : Replay) (ty : ℕ) (f : Option ℕ) (asked : FuncType) → IsSome (called_through ty f r) → asked ≡ get_or r.module.types ty asked → SlotRoom r ty f asked
slot_room r ty f asked there e =
    let swapping = swap (types.I32 ∷ []) [] r.shadow.state in
    let type = found_at r.module.types ty asked (slot_type r.module f (slice_get r.module.types ty) swapping there) e in
    let fit = subst (λ t. IsSome (option_and_then (calls_typed r.module f t) swapping)) type there in
    record { type = type; fit = fit; has = slot_has r.module f asked r.shadow.state fit }

pub slot_is : (l : Loc) (f : Option ℕ) (asked : FuncType) (ty : ℕ) (r : Replay) (ms : List Marked) (p : Option PreparedLocals) → IsSome (called_through ty f r) → asked ≡ get_or r.module.types ty asked
    → AreOperandsBelow 1 (length asked.params) ms (standing_in r.shadow) → Prepares l asked f ms r p → slot_called l ty f r ≡ Some (calling (1 + length asked.params) (values_prepared p) (marks_prepared p) r.shadow)
slot_is l f asked ty r ms p there listed below prepared =
    let m = r.module in
    let sh = r.shadow in
    let room = slot_room r ty f asked there listed in
    let n = length asked.params in
    let with_prepared : Option (List Value) → Option PreparedMarks → List Bool → Option TaintedShadow = λ vs ks o. Some (record {
      state = record sh.state { frames = exchanged_in (1 + n) [] sh.state.frames; prepared = vs };
      marks = record sh.marks { taint = record sh.marks.taint { operands = o }; prepared = ks };
    }) in
    let o = sh.marks.taint.operands in
    ap (λ t. with_marks (calls_typed_marks m l f t (move (exchange 1 []) sh.marks)) (option_and_then (calls_typed m f t) (swap (types.I32 ∷ []) [] sh.state))) room.type
    ∙ (ap (with_marks (calls_typed_marks m l f (Some asked) (move (exchange 1 []) sh.marks))) (slot_state m f asked sh.state room.fit)
    ∙ (ap (λ vs. with_prepared vs (slot_marks m l asked f (reverse (take n (drop 1 o)))) (drop n (drop 1 o))) (ap (prepared_slot m asked f) (sym below.values) ∙ sym prepared.values)
    ∙ (ap (λ ks. with_prepared (values_prepared p) ks (drop n (drop 1 o))) (ap (slot_marks m l asked f) (sym below.marks) ∙ sym prepared.marks)
    ∙ ap (with_prepared (values_prepared p) (marks_prepared p)) (drop-drop n 1 o))))

-- ---- what a call through a slot prepares

pub prepares_locals : (loc : Loc) (asked : FuncType) (f : ℕ) (ms ls : List Marked) (r : Replay) (c : Callee) → slice_get (callees_of r.module) f ≡ Some c → same_func_type (callee_type c) asked ≡ true → ls ≡ begun_with c ms
    → Prepares loc asked (Some f) ms r (Some (record { call = Some loc; locals = ls }))
prepares_locals loc asked f ms ls r c e h g = record {
  values = sym (ap (λ c. prepared_typed asked c (values_in ms)) e ∙ (ap (λ b. cond b (Some (prepared_locals c (values_in ms))) None) h ∙ ap (λ vs. Some vs) (sym (ap values_in g ∙ begun_values c ms))));
  marks = sym (ap (λ c. typed_marks loc asked c (marks_in ms)) e ∙ (ap (λ b. cond b (prepared_marks (Some loc) (Some c) (marks_in ms)) None) h ∙ ap (λ ks. (let t : Option PreparedMarks = Some (record { call = Some loc; marks = ks }) in t)) (sym (ap marks_in g ∙ begun_marks c ms))));
}
