use Rattle.std.proofs.Common.{◌≡◌, ◌∙◌, [], ◌∷◌, ◌++◌, ap, ap₂, append_assoc}
use Rattle.module_ast.specs.declared.code.Instr.TheVariants.{Drop, Select}
use Rattle.module_gen.specs.Codes.{condition, constant_of}
use Rattle.module_gen.proofs.codes.pick.Goals as goal

pub returns : goal.returns
returns c =
    let ty = c.args.ty in
    let first = constant_of ty c.args.first in
    let second = constant_of ty c.args.second in
    let constants : c.in_ok-code.code.items ≡ first ∷ second ∷ [] = c.in_ok-code.ensures.items ∙ ap₂ (λ a b. a ∷ b ∷ []) c.constant.ensures c.constant-2.ensures in
    c.in_ok-push-2.ensures.items
    ∙ ap (λ l. l ++ Drop ∷ []) (c.in_ok-push.ensures.items ∙ ap (λ l. l ++ Select ∷ []) (c.in_ok-append.ensures.items ∙ ap₂ (λ l m. l ++ m) constants c.in_ok-condition.ensures))
    ∙ append_assoc (first ∷ second ∷ condition ty) (Select ∷ []) (Drop ∷ [])
