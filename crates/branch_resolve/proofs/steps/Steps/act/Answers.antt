use Rattle.std.proofs.Common.{◌∷◌, ◌+◌, sym, ◌&&◌, reverse, refl, ap, ◌∙◌}
use Rattle.module_ast.specs.Places.{at, acts}
use Rattle.module_ast.specs.Structure.{code_of}
use Rattle.branch_resolve.specs.Levels.{places_from, level_scopes}
use Rattle.branch_resolve.proofs.Moves.{act_places, position_is}
use Rattle.branch_resolve.proofs.steps.Steps.act.Goals as goal

pub returns-clause-step : goal.returns-clause-step
returns-clause-step c =
    let s = c.args.self.now in
    let ls = reverse s.levels.items in
    let k = code_of c.args.behind.now in
    let (q, o, f) = act_places ls s.live s.position c.args.first.now k c.requires.plain in
    let x = at s.position s.live (acts q) (level_scopes ls) in (
      x,
      ap (λ r. places_from ls s.live s.position (code_of r)) c.requires.at ∙ f ∙ ap (λ g. x ∷ places_from ls (s.live && g) (s.position + 1) k) (sym c.goes_on.ensures),
      (position_is s.position _ c.requires.whole.fits, refl, (q, o, refl)),
      (refl, refl),
    )
