use Rattle.std.proofs.Common.{◌∙◌, ap, sym, refl}
use Rattle.branch_resolve.specs.Levels.{entry_place, places_left, steps_left}
use Rattle.branch_resolve.proofs.walk.Walk.next.Goals as goal

pub returns-then-not-self-clause-ok : goal.returns-then-not-self-clause-ok
returns-then-not-self-clause-ok c =
    let a = c.self.inside in
    (entry_place, ap (λ w. w.left) (sym c.self.view_is) ∙ ap (λ b. places_left b (steps_left a.steps)) c.if-not-self.true, (refl, refl, refl), c.self.invariant.entry c.if-not-self.true)
