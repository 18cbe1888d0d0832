use Rattle.std.proofs.Common.{arith, ◌≡◌, ◌∙◌, ◌<◌, ℕ, Option, Some, None, refl, sym, ap}
use Rattle.std.specs.Prelude.{option_map, reverse}
use Rattle.shadow_replay.specs.Shadow.{HeldValues}
use Rattle.shadow_replay.specs.Stacked.{Standing, values_in, label_landed}
use Rattle.shadow_replay.specs.Tainted.{outer_count, TaintedShadow}
use Rattle.shadow_replay.specs.Replayed.{Replay, HeldOperands, shadow_seen, held_marks, ended}
use Rattle.shadow_replay.proofs.ShadowEnds.{on_ok, land_is}
use Rattle.shadow_replay.proofs.ShadowTakes.{becomes}
use Rattle.shadow_replay.proofs.shadow.Shadow.end.Goals as goal

pub returns-then-held-eq0-clause-ok : goal.returns-then-held-eq0-clause-ok
returns-then-held-eq0-clause-ok c =
    let s = c.self.inside in
    let ms = c.held.inside.operands.items in
    let given = option_map (λ v. v.items) s.given in
    let after : Standing → Option HeldOperands → TaintedShadow = λ st h. shadow_seen s.memory.bytes s.memory_marks.items s.globals.items st s.prepared h given s.warnings.items in
    let with_label : ℕ → Option HeldOperands = λ n. Some (record { operands = ms; label = n }) in
    let is : s.held ≡ with_label 0 = sym c.take.ensures.value ∙ (c.in-Some.is ∙ (ap (λ (h : HeldOperands). Some h) (sym c.held.view_is) ∙ ap with_label c.if-held-eq0.true)) in
    let held : (after s.stack s.held).state.held ≡ Some (record { values = values_in ms; label = 0 }) =
    ap (option_map (λ (h : HeldOperands). (let v : HeldValues = record { values = values_in h.operands; label = h.label } in v))) is in
    let outer : 0 < outer_count s.stack.frames = omega (arith, c.outer_count.ensures, c.if-outer_count-eq0.false) in
    let stack : c.land.new.self ≡ label_landed (reverse ms) s.stack = on_ok c.land.result c.if-is_err.ensures.negation c.land.ensures.ok ∙ ap (λ ms. label_landed (reverse ms) s.stack) c.as_slice.ensures.value in
    becomes (λ (r : Replay). ended r.shadow) _ c.args.self.now _ c.self.view_is
    (land_is (after s.stack s.held) ms s.stack.frames outer held (ap held_marks is) ∙ (ap (λ st. Some (after st None)) (sym stack) ∙ ap (λ h. Some (after c.land.new.self h)) (sym c.take.ensures.after))) refl refl refl
