-- How the instructions of a sequence join.
use Rattle.std.proofs.Common.{◌≡◌, Option, sym, ap, ◌∙◌, subst}
use Rattle.module_ast.specs.Structure.{Tree}
use Rattle.module_ast.specs.Validation.{Context}
use Rattle.code_valid.specs.Checking.{BlockStack}
use Rattle.code_valid.specs.Control.{Control, innermost_stack, with_innermost_stack, context_in}
use Rattle.code_valid.specs.Survey.{Notes, survey}

module _ (d : Context) (init cur new : Control) (w v : Notes) (rest now : Tree) (f : Tree → Tree) (b : BlockStack)
    (same : cur ≡ with_innermost_stack (innermost_stack cur) init) (moved : new ≡ with_innermost_stack b cur)
    (step : (t : Tree) → survey (context_in d cur) cur.innermost.base (f t) (innermost_stack cur) w ≡ survey (context_in d cur) cur.innermost.base t b v)
    (next : now ≡ f rest) where
  pub more_surveyed : (o : Option (BlockStack × Notes)) → survey (context_in d init) init.innermost.base now (innermost_stack cur) w ≡ o → survey (context_in d init) init.innermost.base rest (innermost_stack new) v ≡ o
  more_surveyed o so_far =
      ap (λ z. survey (context_in d init) init.innermost.base rest (innermost_stack z) v) moved
      ∙ sym (subst (λ (z : Control). survey (context_in d z) z.innermost.base (f rest) (innermost_stack cur) w ≡ survey (context_in d z) z.innermost.base rest b v) same (step rest))
      ∙ ap (λ z. survey (context_in d init) init.innermost.base z (innermost_stack cur) w) (sym next) ∙ so_far
