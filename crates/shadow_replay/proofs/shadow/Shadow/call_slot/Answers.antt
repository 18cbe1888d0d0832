use Rattle.std.proofs.Common.{◌≡◌, ◌∙◌, ◌+◌, ℕ, [], Option, Some, IsSome, get_or, length, refl, sym, ap, subst}
use Rattle.std.specs.Prelude.{option_map}
use Rattle.wasm_sem.specs.Types.{FuncType, Module}
use Rattle.shadow_replay.specs.Stacked.{Standing, Has, exchanged, AreOperandsBelow}
use Rattle.shadow_replay.specs.Tainted.{TaintedShadow}
use Rattle.shadow_replay.specs.Replayed.{Replay, Prepares, shadow_seen, called_through, slot_called}
use Rattle.shadow_replay.proofs.ShadowTakes.{seen_in, becomes}
use Rattle.shadow_replay.proofs.ShadowEnters.{slot_room, slot_is}
use Rattle.shadow_replay.proofs.shadow.Shadow.call_slot.Goals as goal

-- the slot's number and the arguments are there
arguments_there : (r old : Replay) (ty : ℕ) (f : Option ℕ) (asked : FuncType) (n : ℕ) → r ≡ old → asked ≡ get_or r.module.types ty asked → n ≡ length asked.params → IsSome (called_through ty f old) → Has (1 + n) r.shadow.state.frames
arguments_there r old ty f asked n e listed count fit =
    subst (λ n. Has (1 + n) r.shadow.state.frames) (sym count) (slot_room r ty f asked (subst (λ (r : Replay). IsSome (called_through ty f r)) (sym e) fit) listed).has

pub values_below-requires : goal.values_below-requires
values_below-requires c =
    let asked = c.index-as_slice-ty.result in
    let listed = c.index-as_slice-ty.is ∙ ap (λ tys. get_or tys c.args.ty asked) (c.as_slice.ensures ∙ ap (λ (m : Module). m.types) c.module.ensures.module) in
    arguments_there _ c.args.self.now c.args.ty c.args.callee asked _ c.self.view_is listed (ap length c.as_slice-count.ensures) c.requires.fit

pub pop-requires : goal.pop-requires
pop-requires c =
    let asked = c.index-as_slice-ty.result in
    let listed = c.index-as_slice-ty.is ∙ ap (λ tys. get_or tys c.args.ty asked) (c.as_slice.ensures ∙ ap (λ (m : Module). m.types) c.module.ensures.module) in
    arguments_there _ c.args.self.now c.args.ty c.args.callee asked _ c.self.view_is listed (ap length c.as_slice-count.ensures) c.requires.fit

pub returns-clause-ok : goal.returns-clause-ok
returns-clause-ok c =
    let s = c.self.inside in
    let l = c.args.loc in
    let f = c.args.callee in
    let asked = c.index-as_slice-ty.result in
    let n = length asked.params in
    let ms = c.in_ok-args.args.items in
    let p = c.in_ok-prepared.prepared in
    let seen = seen_in c.self.view_is in
    let there : IsSome (called_through c.args.ty f seen) = subst (λ (r : Replay). IsSome (called_through c.args.ty f r)) (sym c.self.view_is) c.requires.fit in
    let listed = c.index-as_slice-ty.is ∙ ap (λ tys. get_or tys c.args.ty asked) (c.as_slice.ensures ∙ ap (λ (m : Module). m.types) c.module.ensures.module) in
    let count : length c.as_slice-count.result.now ≡ n = ap length c.as_slice-count.ensures in
    let after : Standing → TaintedShadow = λ st. shadow_seen s.memory.bytes s.memory_marks.items s.globals.items st p s.held (option_map (λ v. v.items) s.given) s.warnings.items in
    let args : AreOperandsBelow 1 n ms s.stack = subst (λ n. AreOperandsBelow 1 n ms s.stack) count c.in_ok-args.ensures in
    let stack : c.pop.new.self ≡ exchanged (1 + n) [] s.stack = c.pop.ensures ∙ ap (λ n. exchanged (1 + n) [] s.stack) count in
    let prepared : Prepares l asked f ms seen p = subst (λ (r : Replay). Prepares l asked f ms r p) (sym c.self.view_is) c.in_ok-prepared.ensures in
    becomes (slot_called l c.args.ty f) seen c.args.self.now _ c.self.view_is (slot_is l f asked c.args.ty seen ms p there listed args prepared ∙ ap (λ st. Some (after st)) (sym stack)) refl refl refl
