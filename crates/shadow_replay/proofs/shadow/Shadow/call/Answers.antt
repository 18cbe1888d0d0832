use Rattle.std.proofs.Common.{◌≡◌, ◌+◌, ◌∙◌, ℕ, List, [], Some, IsSome, length, slice_get, refl, sym, ap, subst, arith}
use Rattle.std.specs.Prelude.{option_map}
use Rattle.wasm_sem.specs.Types.{FuncType}
use Rattle.wasm_sem.specs.Execution.{Callee, callee_type, callees_of}
use Rattle.shadow_replay.specs.declared.marked.Marked.{Marked}
use Rattle.shadow_replay.specs.Shadow.{calls_callee}
use Rattle.shadow_replay.specs.Stacked.{Standing, Has, exchanged, AreOperandsBelow}
use Rattle.shadow_replay.specs.Tainted.{TaintedShadow, calls_marks, with_marks}
use Rattle.run_store.specs.Resolved.{callee_for}
use Rattle.shadow_replay.specs.Resolved.{begun_with}
use Rattle.shadow_replay.specs.Replayed.{Replay, shadow_seen, called}
use Rattle.shadow_replay.proofs.ShadowTakes.{becomes}
use Rattle.shadow_replay.proofs.ShadowEnters.{call_has, call_is}
use Rattle.shadow_replay.proofs.shadow.Shadow.call.Goals as goal

-- the arguments are there
arguments_there : (r old : Replay) (f n : ℕ) (c : Callee) → r ≡ old → slice_get (callees_of old.module) f ≡ Some c → n ≡ length (callee_type c).params → IsSome (called f old) → Has n r.shadow.state.frames
arguments_there r old f n c e found count fit =
    subst (λ n. Has n r.shadow.state.frames) (sym count)
    (subst (λ (r : Replay). Has (length (callee_type c).params) r.shadow.state.frames) (sym e) (call_has old.shadow.state c (subst (λ c. IsSome (calls_callee old.shadow.state c)) found fit)))

pub values_below-requires : goal.values_below-requires
values_below-requires c =
    let count = ap length (c.as_slice-count.ensures ∙ ap (λ (ty : FuncType). ty.params) c.ty.ensures) in
    let whole : length c.as_slice-count.result.now ≡ 0 + length c.as_slice-count.result.now = omega arith in
    subst (λ n. Has n c.self.inside.stack.frames) whole
    (arguments_there _ c.args.self.now c.args.callee _ (callee_for c.function-function.result) c.self.view_is c.function-function.ensures count c.requires.fit)

pub pop-requires : goal.pop-requires
pop-requires c =
    let count = ap length (c.as_slice-count.ensures ∙ ap (λ (ty : FuncType). ty.params) c.ty.ensures) in
    arguments_there _ c.args.self.now c.args.callee _ (callee_for c.function-function.result) c.self.view_is c.function-function.ensures count c.requires.fit

pub returns-clause-ok : goal.returns-clause-ok
returns-clause-ok c =
    let s = c.self.inside in
    let l = c.args.loc in
    let f = c.args.callee in
    let callee = callee_for c.function-function.result in
    let n = length (callee_type callee).params in
    let given = option_map (λ v. v.items) s.given in
    let seen : TaintedShadow = shadow_seen s.memory.bytes s.memory_marks.items s.globals.items s.stack s.prepared s.held given s.warnings.items in
    let count : length c.as_slice-count.result.now ≡ n = ap length (c.as_slice-count.ensures ∙ ap (λ (ty : FuncType). ty.params) c.ty.ensures) in
    let after : Standing → List Marked → TaintedShadow = λ st ms. shadow_seen s.memory.bytes s.memory_marks.items s.globals.items st (Some (record { call = Some l; locals = ms })) s.held given s.warnings.items in
    let found : slice_get (callees_of s.valid.now) f ≡ Some callee = ap (λ (r : Replay). slice_get (callees_of r.module) f) c.self.view_is ∙ c.function-function.ensures in
    let fit : IsSome (calls_callee seen.state (Some callee)) = subst (λ f. IsSome (calls_callee seen.state f)) found (subst (λ (r : Replay). IsSome (called f r)) (sym c.self.view_is) c.requires.fit) in
    let args : AreOperandsBelow 0 n c.in_ok-args.args.items s.stack = subst (λ n. AreOperandsBelow 0 n c.in_ok-args.args.items s.stack) count c.in_ok-args.ensures in
    let stack : c.pop.new.self ≡ exchanged n [] s.stack = c.pop.ensures ∙ ap (λ n. exchanged n [] s.stack) count in
    becomes (λ (r : Replay). with_marks (calls_marks l (slice_get (callees_of r.module) f) r.shadow.marks) (called f r)) _ c.args.self.now _ c.self.view_is
    (ap (λ c. with_marks (calls_marks l c seen.marks) (calls_callee seen.state c)) found
    ∙ (call_is l seen callee c.in_ok-args.args.items fit args ∙ (ap (λ st. Some (after st (begun_with callee c.in_ok-args.args.items))) (sym stack) ∙ ap (λ ms. Some (after c.pop.new.self ms)) (sym c.in_ok-locals.ensures)))) refl refl refl
