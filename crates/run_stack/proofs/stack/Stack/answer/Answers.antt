use Rattle.std.proofs.Common.{◌∙◌, ◌+◌, ap, length, arith}
use Rattle.std.proofs.lemmas.List.{drop_all, length-reverse}
use Rattle.module_ast.specs.Validation.{push}
use Rattle.run_stack.specs.Flat.{Flat}
use Rattle.run_stack.proofs.stack.Stack.answer.Goals as goal

pub values_below-requires : goal.values_below-requires
values_below-requires c =
    omega (arith, c.len.ensures, c.self.inside.values.ok.0, ap (λ (f : Flat). length f.values) c.self.view_is, length-reverse c.self.inside.values.items)

pub returns : goal.returns
returns c =
    let all = ap (λ (f : Flat). length f.values) c.self.view_is in (
      c.requires.left,
      c.in-Ok.ensures.ok.are
          ∙ ap (push c.in-Ok.values) (drop_all (0 + c.len.result) c.args.self.now.values (omega (arith, c.len.ensures, c.self.inside.values.ok.0, all, length-reverse c.self.inside.values.items))),
    )
