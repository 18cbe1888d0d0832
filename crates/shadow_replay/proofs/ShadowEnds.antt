-- What a branch and the end of a block make of a state that they are fit for.
use Rattle.std.proofs.Common.{◌≡◌, ℕ, zero, suc, ◌+◌, ◌<◌, ◌≤◌, List, [], ◌∷◌, ◌++◌, Option, Some, None, IsSome, Bool, length, option_and_then, take, drop, refl, sym, ap, ◌∙◌, subst, arith, append-nil}
use Rattle.std.specs.Prelude.{reverse, Result, Ok, Err, is_ok, OnOk, true}
use Rattle.std.proofs.Math.Seq.{drop-nil}
use Rattle.std.proofs.lemmas.List.{nil_from_length, reverse-reverse, length-drop, drop_all}
use Rattle.wasm_sem.specs.Types.{Value}
use Rattle.module_ast.specs.Validation.{push}
use Rattle.shadow_replay.specs.declared.marked.Marked.{Marked}
use Rattle.shadow_replay.specs.Shadow.{ShadowLabel, ShadowFrame, HeldValues, Shadow, have_types, types_of, swap, swap_in, with_operands, branch_values, with_held, with_results, holds, holds_results, drops_last, drops_label}
use Rattle.shadow_replay.specs.Stacked.{values_in, marks_in, Standing, Has, HasLabel, exchanged_in, exchanged, operand_count, top_operands, frame_left, label_landed, AreOperandsBelow}
use Rattle.shadow_replay.specs.Tainted.{arity_in, outer_count, ShadowMarks, TaintedShadow, held_arity, holds_marks, drops_marks, takes_given_marks, with_marks}
use Rattle.shadow_replay.specs.Replayed.{below, held_below, held_in, with_standing, standing_in, ended_in, ended, given_taken}
use Rattle.shadow_replay.proofs.ShadowTakes.{some_if, some_of, Popped, popped, popped_of, push_is}
use Rattle.shadow_replay.proofs.StackReads.{map-reverse}

-- ---- the values that a branch takes

pub record Found (o : List Value) (n a : ℕ) (outer : List ShadowLabel) : Type 0 where
  pub label : n ≤ length outer
  pub within : held_arity n a outer ≤ length o
  pub is : branch_values o n a outer ≡ Some (reverse (take (held_arity n a outer) o) ++ [], drop (held_arity n a outer) o)

found : (o : List Value) (n a : ℕ) (outer : List ShadowLabel) → IsSome (branch_values o n a outer) → Found o n a outer
found o zero a outer h = let p = popped a o [] h in record { label = omega arith; within = p.within; is = p.is }
found o (suc n) a [] h = absurd cc
found o (suc n) a (l ∷ ls) h = let r = found o n l.arity ls h in record { label = omega (arith, r.label); within = r.within; is = r.is }

frame_found : (n : ℕ) (fr : ShadowFrame) (below : List ShadowFrame) (sh : Shadow) → IsSome (holds n (fr ∷ below) sh) → Found fr.top.ops n fr.top.arity fr.outer
frame_found n fr below sh h = found fr.top.ops n fr.top.arity fr.outer (some_of (with_held sh n) refl (branch_values fr.top.ops n fr.top.arity fr.outer) h)

-- a label and its values are there, below so many operands
pub record HasHeld (a n : ℕ) (fs : List ShadowFrame) : Type 0 where
  pub label : HasLabel n fs
  pub values : Has (a + arity_in n fs) fs

has_held : (a n : ℕ) (fs : List ShadowFrame) (sh : Shadow) → Has a fs → IsSome (holds n (exchanged_in a [] fs) sh) → HasHeld a n fs
has_held a n [] sh k h = absurd k
has_held a n (fr ∷ below) sh k h =
    let r = frame_found n (record fr { top = record fr.top { ops = drop a fr.top.ops } }) below sh h in
    record { label = r.label; values = omega (arith, r.within, length-drop a fr.top.ops, k) }

pub held_has : (a n : ℕ) (sh : Shadow) → Has a sh.frames → IsSome (held_below a n sh) → HasHeld a n sh.frames
held_has a n sh k h = has_held a n sh.frames (below a sh) k h

-- what is held then
abbrev pub holding : (label : ℕ) → List Marked → ShadowMarks → Shadow → Option TaintedShadow
holding n ms k sh = Some (record { state = record sh { held = Some (record { values = values_in ms; label = n }) }; marks = record k { held = reverse (marks_in ms) } })

pub held_is : (n : ℕ) (fs : List ShadowFrame) (sh : Shadow) (k : ShadowMarks) (ms : List Marked) → IsSome (holds n fs sh) → values_in ms ≡ reverse (take (arity_in n fs) (top_operands fs)) → marks_in ms ≡ reverse (take (arity_in n fs) k.taint.operands)
    → with_marks (holds_marks n fs k) (holds n fs sh) ≡ holding n ms k sh
held_is n [] sh k ms h e g = absurd cc
held_is n (fr ∷ below) sh k ms h e g =
    let r = frame_found n fr below sh h in
    let a = held_arity n fr.top.arity fr.outer in
    let with_values : List Value → Option Shadow = λ vs. Some (record sh { held = Some (record { values = vs; label = n }) }) in
    ap (λ r. with_marks (holds_marks n (fr ∷ below) k) (with_held sh n r)) r.is
    ∙ (ap (λ vs. with_marks (holds_marks n (fr ∷ below) k) (with_values vs)) (append-nil (reverse (take a fr.top.ops)) ∙ sym e)
    ∙ ap (λ ks. with_marks (record k { held = ks }) (with_values (values_in ms))) (sym (reverse-reverse (take a k.taint.operands)) ∙ ap reverse (sym g)))

-- below so many operands
pub arity_below : (a n : ℕ) (fs : List ShadowFrame) → arity_in n (exchanged_in a [] fs) ≡ arity_in n fs
arity_below a n [] = refl
arity_below a n (fr ∷ below) = refl

pub top_past : (n : ℕ) (fs : List ShadowFrame) → top_operands (exchanged_in n [] fs) ≡ drop n (top_operands fs)
top_past n [] = sym (drop-nil n)
top_past n (fr ∷ below) = refl

pub held_below_is : (a n : ℕ) (sh : TaintedShadow) (ms : List Marked) → Has a sh.state.frames → IsSome (held_below a n sh.state) → values_in ms ≡ reverse (take (arity_in n sh.state.frames) (drop a (top_operands sh.state.frames)))
    → marks_in ms ≡ reverse (take (arity_in n sh.state.frames) (drop a sh.marks.taint.operands))
    → with_marks (holds_marks n (exchanged_in a [] sh.state.frames) (record sh.marks { taint = record sh.marks.taint { operands = drop a sh.marks.taint.operands } })) (held_below a n sh.state)
    ≡ Some (with_standing (exchanged a [] (standing_in sh)) (held_in n ms sh))
held_below_is a n sh ms has h e g =
    let fs = sh.state.frames in
    let fs2 = exchanged_in a [] fs in
    let arity = sym (arity_below a n fs) in
    held_is n fs2 (below a sh.state) (record sh.marks { taint = record sh.marks.taint { operands = drop a sh.marks.taint.operands } }) ms h
    (e ∙ (ap (λ k. reverse (take k (drop a (top_operands fs)))) arity ∙ ap (λ os. reverse (take (arity_in n fs2) os)) (sym (top_past a fs))))
    (g ∙ ap (λ k. reverse (take k (drop a sh.marks.taint.operands))) arity)

-- ---- a return

some_results : (sh : Shadow) (n : ℕ) (vs : List Value) (r : Option (List Value × List Value)) → IsSome (with_results sh n vs r) → with_results sh n vs r ≡ with_held sh n r
some_results sh n vs None h = absurd cc
some_results sh n vs (Some p) h = (some_if (have_types (types_of vs) p.0) (with_held sh n (Some p)) h).0

pub return_is : (vs : List Value) (fs : List ShadowFrame) (sh : Shadow) → IsSome (holds_results vs fs sh) → holds_results vs fs sh ≡ holds (outer_count fs) fs sh
return_is vs [] sh h = absurd cc
return_is vs (fr ∷ below) sh h = some_results sh (length fr.outer) vs (branch_values fr.top.ops (length fr.outer) fr.top.arity fr.outer) h

-- ---- ends

-- the function's label goes, where none are held
abbrev giving : List Marked → Standing → TaintedShadow → TaintedShadow
giving ms st sh = record {
  state = record (with_standing st sh).state { given = Some (values_in ms) };
  marks = record (with_standing st sh).marks { given = reverse (marks_in ms) };
}

module _ (sh : TaintedShadow) (fr : ShadowFrame) (below : List ShadowFrame) where
  abbrev ended_frame : Option HeldValues → List ShadowLabel → Option TaintedShadow
  ended_frame held outer = with_marks (drops_marks (record fr { outer = outer }) held sh.marks) (drops_label sh.state (record fr { outer = outer }) below held)

  popped_last : IsSome (ended_frame None []) → Popped fr.top.arity fr.top.ops []
  popped_last h = (popped_of (λ r. with_marks (drops_marks (record fr { outer = [] }) None sh.marks) (drops_last sh.state below r)) refl fr.top.arity fr.top.ops h).0

  last_ends : (ms : List Marked) → IsSome (ended_frame None []) → values_in ms ≡ reverse (take fr.top.arity fr.top.ops) → marks_in ms ≡ reverse (take fr.top.arity sh.marks.taint.operands)
      → ended_frame None [] ≡ Some (giving ms (record { frames = below; operands = drop (length fr.top.ops) sh.marks.taint.operands; locals = drop 1 sh.marks.taint.locals }) sh)
  last_ends ms h e g =
      let p = popped_last h in
      let with_given : List Value → Option Shadow = λ vs. Some (record sh.state { frames = below; given = Some vs }) in
      ap (λ r. with_marks (drops_marks (record fr { outer = [] }) None sh.marks) (drops_last sh.state below r)) p.is
      ∙ (ap (λ vs. with_marks (drops_marks (record fr { outer = [] }) None sh.marks) (with_given vs)) (append-nil (reverse (take fr.top.arity fr.top.ops)) ∙ sym e)
      ∙ ap (λ ks. with_marks (record (drops_marks (record fr { outer = [] }) None sh.marks) { given = ks }) (with_given (values_in ms))) (sym (reverse-reverse (take fr.top.arity sh.marks.taint.operands)) ∙ ap reverse (sym g)))

abbrev fallen : TaintedShadow → List ShadowFrame → Option TaintedShadow
fallen sh [] = None
fallen sh (fr ∷ below) = ended_frame sh fr below None fr.outer

has_fallen : (sh : TaintedShadow) (fs : List ShadowFrame) → outer_count fs ≡ 0 → IsSome (fallen sh fs) → Has (0 + arity_in 0 fs) fs
has_fallen sh [] q h = absurd cc
has_fallen sh (fr ∷ below) q h = omega (arith, (popped_last sh fr below (subst (λ ls. IsSome (ended_frame sh fr below None ls)) (nil_from_length fr.outer q) h)).within)

fallen_is : (sh : TaintedShadow) (fs : List ShadowFrame) (ms : List Marked) → outer_count fs ≡ 0 → IsSome (fallen sh fs) → values_in ms ≡ reverse (take (arity_in 0 fs) (top_operands fs)) → marks_in ms ≡ reverse (take (arity_in 0 fs) sh.marks.taint.operands)
    → fallen sh fs ≡ Some (giving ms (record { frames = drop 1 fs; operands = drop (operand_count fs) sh.marks.taint.operands; locals = drop 1 sh.marks.taint.locals }) sh)
fallen_is sh [] ms q h e g = absurd cc
fallen_is sh (fr ∷ below) ms q h e g =
    let none = nil_from_length fr.outer q in
    ap (ended_frame sh fr below None) none ∙ last_ends sh fr below ms (subst (λ ls. IsSome (ended_frame sh fr below None ls)) none h) e g

ended_fallen : (sh : TaintedShadow) (fs : List ShadowFrame) → sh.state.held ≡ None → ended_in fs sh ≡ fallen sh fs
ended_fallen sh [] h = refl
ended_fallen sh (fr ∷ below) h = ap (λ held. with_marks (drops_marks fr held sh.marks) (drops_label sh.state fr below held)) h

pub has_results : (sh : TaintedShadow) → sh.state.held ≡ None → outer_count sh.state.frames ≡ 0 → IsSome (ended sh) → Has (0 + arity_in 0 sh.state.frames) sh.state.frames
has_results sh e q h = has_fallen sh sh.state.frames q (subst (λ (o : Option TaintedShadow). IsSome o) (ended_fallen sh sh.state.frames e) h)

pub results_given : (sh : TaintedShadow) (ms : List Marked) → sh.state.held ≡ None → outer_count sh.state.frames ≡ 0 → IsSome (ended sh) → AreOperandsBelow 0 (arity_in 0 sh.state.frames) ms (standing_in sh) → ended sh ≡ Some (giving ms (frame_left (standing_in sh)) sh)
results_given sh ms e q h r =
    let same = ended_fallen sh sh.state.frames e in
    same ∙ fallen_is sh sh.state.frames ms q (subst (λ (o : Option TaintedShadow). IsSome o) same h) r.values r.marks

-- ---- held and given values

-- nothing stands above the topmost operand
no_top : (o : List Value) → drop (length o) o ≡ []
no_top o = drop_all (length o) o (omega arith)

pushed : (ms : List Marked) (o : List Value) → push (values_in ms) o ≡ values_in (reverse ms) ++ o
pushed ms o = push_is (values_in ms) o ∙ ap (λ vs. vs ++ o) (sym (map-reverse (λ (m : Marked). m.value) ms))

marked : (ms : List Marked) → reverse (marks_in ms) ≡ marks_in (reverse ms)
marked ms = sym (map-reverse (λ (m : Marked). m.mark) ms)

-- with nothing held or given
abbrev pub unheld : TaintedShadow → TaintedShadow
unheld sh = record { state = record sh.state { held = None }; marks = record sh.marks { held = [] } }

abbrev pub ungiven : TaintedShadow → TaintedShadow
ungiven sh = record { state = record sh.state { given = None }; marks = record sh.marks { given = [] } }

module _ (sh : TaintedShadow) (ms : List Marked) where
  land_labels : (fr : ShadowFrame) (below : List ShadowFrame) (outer : List ShadowLabel) → 0 < length outer → sh.state.held ≡ Some (record { values = values_in ms; label = 0 }) → sh.marks.held ≡ reverse (marks_in ms)
      → with_marks (drops_marks (record fr { outer = outer }) sh.state.held sh.marks) (drops_label sh.state (record fr { outer = outer }) below sh.state.held)
      ≡ Some (unheld (with_standing (label_landed (reverse ms) (record { frames = record fr { outer = outer } ∷ below; operands = sh.marks.taint.operands; locals = sh.marks.taint.locals })) sh))
  land_labels fr below [] k e g = absurd (omega (arith, k))
  land_labels fr below (l ∷ ls) k e g =
      let n = length fr.top.ops in
      let operands = drop n sh.marks.taint.operands in
      let with_ops : List Bool → List Value → Option TaintedShadow = λ ks o. Some (record {
        state = record sh.state { frames = record fr { top = record l { ops = o }; outer = ls } ∷ below; held = None };
        marks = record sh.marks { taint = record sh.marks.taint { operands = ks }; held = [] };
      }) in
      ap (λ held. with_marks (drops_marks (record fr { outer = l ∷ ls }) held sh.marks) (drops_label sh.state (record fr { outer = l ∷ ls }) below held)) e
      ∙ (ap (λ ks. with_ops (ks ++ operands) (push (values_in ms) l.ops)) (g ∙ marked ms)
      ∙ (ap (with_ops (marks_in (reverse ms) ++ operands)) (pushed ms l.ops) ∙ ap (λ o. with_ops (marks_in (reverse ms) ++ operands) (values_in (reverse ms) ++ (o ++ l.ops))) (sym (no_top fr.top.ops))))

  pub land_is : (fs : List ShadowFrame) → 0 < outer_count fs → sh.state.held ≡ Some (record { values = values_in ms; label = 0 }) → sh.marks.held ≡ reverse (marks_in ms)
      → ended_in fs sh ≡ Some (unheld (with_standing (label_landed (reverse ms) (record { frames = fs; operands = sh.marks.taint.operands; locals = sh.marks.taint.locals })) sh))
  land_is [] k e g = absurd (omega (arith, k))
  land_is (fr ∷ below) k e g = land_labels fr below fr.outer k e g

  -- what is given
  swap_given : (fs : List ShadowFrame) (state : Shadow) → Has 0 fs → swap_in fs [] (values_in ms) state ≡ Some (record state { frames = exchanged_in 0 (values_in (reverse ms)) fs })
  swap_given [] state k = absurd k
  swap_given (fr ∷ below) state k = ap (λ o. Some (with_operands state fr below o)) (pushed ms fr.top.ops)

  pub given_is : Has 0 sh.state.frames → sh.state.given ≡ Some (values_in ms) → sh.marks.given ≡ reverse (marks_in ms) → given_taken sh ≡ Some (ungiven (with_standing (exchanged 0 (reverse ms) (standing_in sh)) sh))
  given_is k e g =
      ap (λ o. with_marks (takes_given_marks sh.marks) (option_and_then (λ (vs : List Value). swap [] vs (record sh.state { given = None })) o)) e
      ∙ (ap (with_marks (takes_given_marks sh.marks)) (swap_given sh.state.frames (record sh.state { given = None }) k)
      ∙ ap (λ ks. (let r : Option TaintedShadow = Some (record {
        state = record sh.state { frames = exchanged_in 0 (values_in (reverse ms)) sh.state.frames; given = None };
        marks = record sh.marks { taint = record sh.marks.taint { operands = ks ++ sh.marks.taint.operands }; given = [] };
      }) in r)) (g ∙ marked ms))

-- what is told of a call that did not fail
pub on_ok : {A E P : Type 0} (r : Result A E) → is_ok r ≡ true → OnOk r P → P
on_ok (Ok a) e h = h
on_ok (Err x) e h = absurd cc
