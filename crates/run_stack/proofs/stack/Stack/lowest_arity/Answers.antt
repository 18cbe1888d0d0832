use Rattle.std.proofs.Common.{◌≡◌, length, refl, sym, subst, get_or}
use Rattle.std.specs.Prelude.{option_map, reverse, vec_capacity}
use Rattle.module_ast.specs.Structure.{code_of}
use Rattle.run_stack.specs.Flat.{Spot}
use Rattle.run_stack.proofs.Stacks.{lowest_view}
use Rattle.run_stack.proofs.stack.Stack.lowest_arity.Goals as goal

pub returns : goal.returns
returns c =
    let inside = c.label.inside in
    let t : Spot = record { rest = code_of inside.rest.now; again = option_map (λ s. code_of s.now) inside.again; height = inside.height; arity = inside.arity } in
    lowest_view (reverse c.self.inside.values.items) c.self.inside.labels.items (reverse c.self.inside.frames.items) (vec_capacity c.self.inside.values) (vec_capacity c.self.inside.labels) (vec_capacity c.self.inside.frames)
    (length c.self.inside.labels.items) c.args.self.now refl c.self.view_is c.requires t (subst (λ (t : Spot). t ≡ get_or c.self.inside.labels.items 0 t) (sym c.label.view_is) c.index-label.ensures)
