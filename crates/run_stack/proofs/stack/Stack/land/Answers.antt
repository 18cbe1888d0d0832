use Rattle.std.proofs.Common.{◌≡◌, ◌+◌, ◌-◌, ◌∙◌, ap, sym, arith, get_or, set, take, length, Some, None, subst}
use Rattle.std.specs.Prelude.{reverse, vec_capacity, option_map}
use Rattle.std.proofs.lemmas.List.{length-take-le, length-reverse}
use Rattle.module_ast.specs.Structure.{Tree, code_of}
use Rattle.run_stack.specs.Flat.{Spot, Flat, resumed, moved_spots}
use Rattle.run_stack.proofs.Stacks.{land_view, resumed_spots}
use Rattle.run_stack.proofs.stack.Stack.land.Goals as goal

pub returns-in-Some-clause-branches : goal.returns-in-Some-clause-branches
returns-in-Some-clause-branches c =
    let ls = c.self.inside.labels.items in
    let cut = c.truncate.new.self.items in
    let inside = c.label.inside in
    let t : Spot = record { rest = code_of inside.rest.now; again = option_map (λ s. code_of s.now) inside.again; height = inside.height; arity = inside.arity } in
    let k : Tree = code_of c.in-Some.rest.now in
    let again : t.again ≡ Some k = ap (option_map (λ s. code_of s.now)) c.in-Some.is in
    let sizes : c.args.at + c.args.number + 1 ≡ length ls = c.requires.number ∙ sym (ap (λ (f : Flat). length f.spots) c.self.view_is) ∙ length-reverse ls in
    let cuts : c.args.at ≡ length cut = sym (ap length c.truncate.ensures.items ∙ length-take-le c.args.at ls (omega (arith, sizes))) in
    land_view c.self.inside.values.items ls (reverse c.self.inside.frames.items) _ _ _ c.args.self.now c.args.at c.args.number t c.self.view_is c.requires.number
    (subst (λ (t : Spot). t ≡ get_or ls c.args.at t) (sym c.label.view_is) c.index-label.ensures)
    c.keep.new.values.items (set cut (c.args.at - 1) c.resume.new.self) (vec_capacity c.keep.new.values) (vec_capacity c.truncate.new.self) c.keep.ensures.items
    (ap (λ (s : Spot). reverse (set cut (c.args.at - 1) s)) c.resume.ensures
    ∙ resumed_spots cut c.args.at c.index_mut.result.now k c.requires.inside cuts c.index_mut.ensures.value
    ∙ ap (λ ss. moved_spots k (reverse ss)) c.truncate.ensures.items
    ∙ ap (λ o. resumed o (reverse (take c.args.at ls))) (sym again))
    c.keep.ensures.capacity c.truncate.ensures.capacity

pub returns-in_default-clause-branches : goal.returns-in_default-clause-branches
returns-in_default-clause-branches c =
    let ls = c.self.inside.labels.items in
    let cut = c.truncate.new.self.items in
    let inside = c.label.inside in
    let t : Spot = record { rest = code_of inside.rest.now; again = option_map (λ s. code_of s.now) inside.again; height = inside.height; arity = inside.arity } in
    let again : t.again ≡ None = ap (option_map (λ s. code_of s.now)) c.in_default.is in
    land_view c.self.inside.values.items ls (reverse c.self.inside.frames.items) _ _ _ c.args.self.now c.args.at c.args.number t c.self.view_is c.requires.number
    (subst (λ (t : Spot). t ≡ get_or ls c.args.at t) (sym c.label.view_is) c.index-label.ensures)
    c.keep.new.values.items cut (vec_capacity c.keep.new.values) (vec_capacity c.truncate.new.self) c.keep.ensures.items
    (ap reverse c.truncate.ensures.items ∙ ap (λ o. resumed o (reverse (take c.args.at ls))) (sym again))
    c.keep.ensures.capacity c.truncate.ensures.capacity
