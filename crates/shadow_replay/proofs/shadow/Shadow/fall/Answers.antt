use Rattle.std.proofs.Common.{◌+◌, ◌∙◌, Some, IsSome, refl, sym, ap, subst}
use Rattle.shadow_replay.specs.Stacked.{Standing, Has, AreOperandsBelow}
use Rattle.shadow_replay.specs.Tainted.{TaintedShadow}
use Rattle.shadow_replay.specs.Replayed.{Replay, shadow_seen, ended}
use Rattle.shadow_replay.proofs.ShadowEnds.{has_results, results_given}
use Rattle.shadow_replay.proofs.ShadowTakes.{becomes}
use Rattle.shadow_replay.proofs.shadow.Shadow.fall.Goals as goal

pub values_below-requires : goal.values_below-requires
values_below-requires c =
    subst (λ n. Has (0 + n) c.self.inside.stack.frames) (sym c.arity-arity.ensures)
    (has_results _ (ap (λ (r : Replay). r.shadow.state.held) c.self.view_is ∙ c.requires.held) (sym c.outer_count.ensures ∙ c.if-outer_count-ne0.false) (subst (λ (r : Replay). IsSome (ended r.shadow)) (sym c.self.view_is) c.requires.fit))

pub returns-clause-ok : goal.returns-clause-ok
returns-clause-ok c =
    let s = c.self.inside in
    let results = c.in_ok-results.results.items in
    let after : Standing → TaintedShadow = λ st. shadow_seen s.memory.bytes s.memory_marks.items s.globals.items st s.prepared s.held (Some results) s.warnings.items in
    let below = subst (λ n. AreOperandsBelow 0 n results s.stack) c.arity-arity.ensures c.in_ok-results.ensures in
    becomes (λ (r : Replay). ended r.shadow) _ c.args.self.now _ c.self.view_is
    (results_given _ results (ap (λ (r : Replay). r.shadow.state.held) c.self.view_is ∙ c.requires.held) (sym c.outer_count.ensures ∙ c.if-outer_count-ne0.false) (subst (λ (r : Replay). IsSome (ended r.shadow)) (sym c.self.view_is) c.requires.fit) below
    ∙ ap (λ st. Some (after st)) (sym c.leave.ensures)) refl refl refl
