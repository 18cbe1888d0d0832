use Rattle.std.proofs.Common.{◌≡◌, ◌∙◌, List, Option, Some, None, refl, sym, ap, subst}
use Rattle.std.specs.Prelude.{option_map, reverse}
use Rattle.shadow_replay.specs.declared.marked.Marked.{Marked}
use Rattle.shadow_replay.specs.Stacked.{Standing, Has, exchanged, values_in}
use Rattle.shadow_replay.specs.Tainted.{TaintedShadow}
use Rattle.shadow_replay.specs.Replayed.{Replay, shadow_seen, given_marks, given_taken}
use Rattle.shadow_replay.proofs.ShadowEnds.{on_ok, given_is}
use Rattle.shadow_replay.proofs.ShadowTakes.{becomes}
use Rattle.shadow_replay.proofs.shadow.Shadow.take_given.Goals as goal

pub returns-clause-ok : goal.returns-clause-ok
returns-clause-ok c =
    let s = c.self.inside in
    let ms = c.in-Some.given.items in
    let after : Standing → Option (List Marked) → TaintedShadow = λ st g. shadow_seen s.memory.bytes s.memory_marks.items s.globals.items st s.prepared s.held g s.warnings.items in
    let given = option_map (λ v. v.items) s.given in
    let is : given ≡ Some ms = ap (option_map (λ v. v.items)) (sym c.take.ensures.value ∙ c.in-Some.is) in
    let none : option_map (λ v. v.items) c.take.new.self ≡ None = ap (option_map (λ v. v.items)) c.take.ensures.after in
    let stack : c.extend.new.self ≡ exchanged 0 (reverse ms) s.stack = on_ok c.extend.result c.if-is_err.ensures.negation c.extend.ensures.ok ∙ ap (λ ms. exchanged 0 (reverse ms) s.stack) c.as_slice.ensures.value in
    becomes (λ (r : Replay). given_taken r.shadow) _ c.args.self.now _ c.self.view_is
    (given_is (after s.stack given) ms (subst (λ (r : Replay). Has 0 r.shadow.state.frames) (sym c.self.view_is) c.requires.frame) (ap (option_map values_in) is) (ap given_marks is)
    ∙ (ap (λ st. Some (after st None)) (sym stack) ∙ ap (λ g. Some (after c.extend.new.self g)) (sym none))) refl refl refl
