-- What the event of a branch makes of a state that it is fit for.
use Rattle.std.proofs.Common.{◌≡◌, ℕ, ℤ, zero, suc, List, [], ◌∷◌, take, Option, Some, IsSome, option_and_then, refl, sym, ap, ◌∙◌, subst}
use Rattle.wasm_num.specs.declared.ValType.TheVariants as types
use Rattle.wasm_sem.specs.Types.{Value, Loc}
use Rattle.hook_select.specs.declared.Event.TheVariants as events
use Rattle.wasm_sem.specs.Execution.{event}
use Rattle.shadow_replay.specs.Shadow.{ShadowFrame, Shadow, swap, holds, holds_results}
use Rattle.shadow_replay.specs.Stacked.{exchanged_in, exchanged}
use Rattle.shadow_replay.specs.Taint.{exchange}
use Rattle.shadow_replay.specs.Tainted.{outer_count, ShadowMarks, TaintedShadow, move, holds_marks, with_marks}
use Rattle.shadow_replay.specs.Replayed.{Replay, Becomes, TakesItem, IsFitEvent, HoldsValues, held_in, held_below, held_under, branch_taken, with_standing, standing_in}
use Rattle.shadow_replay.proofs.ShadowTakes.{some_of, swapped}
use Rattle.shadow_replay.proofs.ShadowEnds.{held_is, arity_below, held_below_is, return_is}

-- what a step leads to
moved : (made : Option TaintedShadow) (old new : Replay) (next : TaintedShadow) → new ≡ record old { shadow = next } → made ≡ Some next → Becomes made old new
moved made old new next e h = record {
  effect = h ∙ ap (λ (r : Replay). Some r.shadow) (sym e);
  «module» = ap (λ (r : Replay). r.module) e;
  limit = ap (λ (r : Replay). r.limit) e;
  watch = ap (λ (r : Replay). r.watch) e;
}

pub br_takes : (l : Loc) (n : ℕ) (target : ℤ) (old new : Replay) → IsFitEvent (events.Br l n target) old → HoldsValues n 0 old new → TakesItem (event (events.Br l n target)) old new
br_takes l n target old new fit h =
    moved _ old new (held_in n h.operands old.shadow) h.is (held_is n old.shadow.state.frames old.shadow.state old.shadow.marks h.operands fit h.below.values h.below.marks)

-- with a condition or an index on top
marks_below : (a n : ℕ) (fs : List ShadowFrame) (k : ShadowMarks) → holds_marks n fs k ≡ holds_marks n (exchanged_in a [] fs) k
marks_below a n fs k = ap (λ a. (let l : ShadowMarks = record k { held = take a k.taint.operands } in l)) (sym (arity_below a n fs))

-- which goes, and nothing else changes
abbrev pub Drops : (old new : Replay) → Type 0
Drops old new = new ≡ record old { shadow = with_standing (exchanged 1 [] (standing_in old.shadow)) old.shadow }

pub branch_takes : (n : ℕ) (old mid new : Replay) → IsSome (held_under n old.shadow.state) → HoldsValues n 1 old mid → Drops mid new → Becomes (branch_taken n old.shadow) old new
branch_takes n old mid new fit h g =
    let sh = old.shadow in
    let s = swapped (types.I32 ∷ []) [] sh.state sh.state.frames (some_of (option_and_then (λ (sh : Shadow). holds n sh.frames sh)) refl (swap (types.I32 ∷ []) [] sh.state) fit) in
    let is : held_under n sh.state ≡ held_below 1 n sh.state = ap (option_and_then (λ (sh : Shadow). holds n sh.frames sh)) s.is in
    let after : Replay → Replay = λ r. record r { shadow = with_standing (exchanged 1 [] (standing_in r.shadow)) r.shadow } in
    moved (branch_taken n sh) old new (with_standing (exchanged 1 [] (standing_in sh)) (held_in n h.operands sh)) (g ∙ ap after h.is)
    (ap (λ k. with_marks k (held_under n sh.state)) (marks_below 1 n sh.state.frames (move (exchange 1 []) sh.marks))
    ∙ (ap (with_marks (holds_marks n (exchanged_in 1 [] sh.state.frames) (move (exchange 1 []) sh.marks))) is
    ∙ held_below_is 1 n sh h.operands s.has (subst (λ (o : Option Shadow). IsSome o) is fit) h.below.values h.below.marks))

pub return_takes : (l : Loc) (vs : List Value) (n : ℕ) (old new : Replay) → IsFitEvent (events.Return l vs) old → n ≡ outer_count old.shadow.state.frames → HoldsValues n 0 old new → TakesItem (event (events.Return l vs)) old new
return_takes l vs n old new fit e h =
    let sh = old.shadow in
    let fs = sh.state.frames in
    let is : holds_results vs fs sh.state ≡ holds n fs sh.state = return_is vs fs sh.state fit ∙ ap (λ n. holds n fs sh.state) (sym e) in
    moved _ old new (held_in n h.operands sh) h.is
    (ap (λ k. with_marks k (holds_results vs fs sh.state)) (ap (λ n. holds_marks n fs sh.marks) (sym e))
    ∙ (ap (with_marks (holds_marks n fs sh.marks)) is ∙ held_is n fs sh.state sh.marks h.operands (subst (λ (o : Option Shadow). IsSome o) is fit) h.below.values h.below.marks))
