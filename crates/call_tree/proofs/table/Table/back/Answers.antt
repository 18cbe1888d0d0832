use Rattle.std.proofs.Common.{◌≡◌, ◌-◌, ◌<◌, ◌++◌, [], ◌∷◌, length, ap, sym, ◌∙◌, subst, arith}
use Rattle.call_tree.specs.Counts.{path_at}
use Rattle.call_tree.specs.declared.table.Place.{Place}
use Rattle.call_tree.specs.Table.{Link, link_at, links_of, depths_of, counts_at, nexts_of, paths_of, tallied}
use Rattle.call_tree.proofs.Held.{link_held, view_sized, counts_sized, links_sized}
use Rattle.call_tree.proofs.Visits.{path_behind}
use Rattle.call_tree.proofs.table.Table.back.Goals as goal
use Rattle.call_tree.proofs.table.Table.back.Goals.{After-self, After-index}

within : (c : After-self) → c.args.place - 1 < length c.self.inside.places.items
within c =
    let s = c.self.inside in
    omega (arith, c.requires.0, c.requires.1, ap length c.self.view_is, view_sized s.roots.entries s.places.items c.self.invariant)

pub index-requires : goal.index-requires
index-requires c = omega (arith, within c, c.self.inside.places.ok.0)

link_is : (c : After-index) → (link_at (links_of c.self.inside.places.items) (c.args.place - 1)).from ≡ c.index.result.now.from
link_is c =
    let places = c.self.inside.places.items in
    ap (λ (l : Link). l.from) (sym (link_held places c.index.result.now (c.args.place - 1) (within (goal.at.returns-clause-known c).After-self)))
    ∙ ap (λ (p : Place). p.from) (sym c.index.ensures)

pub returns-clause-known : goal.returns-clause-known
returns-clause-known c =
    let s = c.self.inside in
    let small = within (goal.at.returns-clause-known c).After-self in
    let long = links_sized s.roots.entries s.places.items c.self.invariant in
    omega (arith, link_is c, small, c.self.invariant.back (c.args.place - 1) (omega (arith, small, long)), ap length c.self.view_is, view_sized s.roots.entries s.places.items c.self.invariant)

pub returns-clause-shorter : goal.returns-clause-shorter
returns-clause-shorter c =
    let s = c.self.inside in
    let places = s.places.items in
    let l = link_at (links_of places) (c.args.place - 1) in
    let small = within (goal.at.returns-clause-shorter c).After-self in
    let h = path_behind (links_of places) (depths_of places) (nexts_of s.roots.entries places) c.self.invariant (counts_at places) (counts_sized s.roots.entries places c.self.invariant)
    c.args.place c.requires.0 (omega (arith, small, links_sized s.roots.entries places c.self.invariant, c.requires.0)) in (
      l.func,
      subst (λ v. path_at v c.args.place ≡ path_at v c.index.result.now.from ++ l.func ∷ []) c.self.view_is
          (subst (λ p. path_at (tallied (paths_of (links_of places)) (counts_at places)) c.args.place ≡ path_at (tallied (paths_of (links_of places)) (counts_at places)) p ++ l.func ∷ []) (link_is c) h),
    )
