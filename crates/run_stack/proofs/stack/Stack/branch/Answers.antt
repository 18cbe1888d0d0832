use Rattle.std.proofs.Common.{◌≡◌, ◌+◌, ◌-◌, ◌∙◌, ap, sym, arith, get_or, length, subst}
use Rattle.std.specs.Prelude.{slice_get, option_map}
use Rattle.std.proofs.lemmas.List.{length-reverse}
use Rattle.module_ast.specs.Structure.{code_of}
use Rattle.run_stack.specs.Flat.{Spot, Flat, Base, first_base}
use Rattle.run_stack.proofs.Stacks.{spot_at, base_at}
use Rattle.run_stack.proofs.stack.Stack.branch.Goals as goal

pub returns-then-at-index-clause-branches : goal.returns-then-at-index-clause-branches
returns-then-at-index-clause-branches c =
    let ls = c.self.inside.labels.items in
    let inside = c.behind-self.inside in
    let frame : Base = record { values = c.behind-self-2.inside.values; labels = c.behind-self-2.inside.labels } in
    let t : Spot = record { rest = code_of inside.rest.now; again = option_map (λ s. code_of s.now) inside.again; height = inside.height; arity = inside.arity } in
    let spots : length c.args.self.now.spots ≡ length ls = sym (ap (λ (f : Flat). length f.spots) c.self.view_is) ∙ length-reverse ls in
    let len : c.len.result ≡ length ls = c.len.ensures ∙ c.self.inside.labels.ok.0 in
    let sizes : (c.len.result - 1 - c.args.number) + c.args.number + 1 ≡ length ls = omega (arith, c.requires.own, spots, len) in
    let base : first_base c.args.self.now.bases ≡ frame =
    base_at _ _ c.self.inside.frames.items _ _ _ c.len-2.result c.args.self.now frame (c.len-2.ensures ∙ c.self.inside.frames.ok.0) c.self.view_is c.requires.some
    (subst (λ (b : Base). b ≡ get_or c.self.inside.frames.items (c.len-2.result - 1) b) (sym c.behind-self-2.view_is) c.index-2.ensures) in
    let outermost : length c.args.self.now.spots ≡ (first_base c.args.self.now.bases).labels + c.args.number + 1 =
    omega (arith, spots, sizes, ap (λ (b : Base). b.labels) base, c.if-at-index.true) in
    record {
      spot = t;
      at = ap (λ (f : Flat). slice_get f.spots c.args.number) (sym c.self.view_is) ∙ spot_at ls (c.len.result - 1 - c.args.number) c.args.number t sizes
          (subst (λ (t : Spot). t ≡ get_or ls (c.len.result - 1 - c.args.number) t) (sym c.behind-self.view_is) c.index.ensures);
      leaves = λ _. c.leave.ensures;
      stays = λ h. absurd (h outermost);
    }
