use Rattle.std.proofs.Common.{◌≡◌, ◌∙◌, ◌∷◌, sym, ap, subst, subst₂, length, Some}
use Rattle.branch_resolve.specs.Scopes.{blocks_around}
use Rattle.branch_resolve.specs.Walks.{IsNextPlace}
use Rattle.rewrite_needs.specs.declared.needs.Needs.{Needs}
use Rattle.rewrite_needs.proofs.Needing.{IsUnderway, underway_first, underway_next}
use Rattle.rewrite_needs.proofs.needs.Needs.add_places.Goals as goal

pub loop-place-init : goal.loop-place-init
loop-place-init c =
    let s = c.args.site.now in
    let n = c.args.self.now in
    subst₂ (IsUnderway n.hooks s) (sym c.requires.first) (sym c.requires.left) (underway_first n.hooks s c.requires.few)

pub loop-place-preserved : goal.loop-place-preserved
loop-place-preserved c =
    let s = c.args.site.now in
    let hooks = c.args.self.now.hooks in
    let n = c.loop-place.self in
    let y = c.in-Some.place in
    let left = c.next.new.self.left in
    let next : IsNextPlace c.loop-place.walk c.next.new.self (Some y) = subst (IsNextPlace c.loop-place.walk c.next.new.self) c.in-Some.is c.in_ok-place.ensures.ok in
    let x = next.0 in
    let depth : c.depth-depth.result ≡ length (blocks_around x.scopes) = c.depth-depth.ensures ∙ ap length (c.scopes.ensures ∙ next.3) in
    let before : IsUnderway hooks s n (x ∷ left) = subst (IsUnderway hooks s n) next.1 c.loop-place.invariant in
    subst (λ (n : Needs). IsUnderway hooks s n left) (sym c.in_ok-add_place.ensures) (underway_next hooks s n x left y c.depth-depth.result next.2 depth before)
