use Rattle.std.proofs.Common.{◌∙◌, [], ◌∷◌, ◌++◌, ap, ap₂, append_assoc}
use Rattle.module_ast.specs.Structure.{code_of}
use Rattle.module_ast.specs.declared.code.BlockType.TheVariants.{Value}
use Rattle.module_ast.specs.declared.code.Instr.TheVariants.{IfElse, LocalSet}
use Rattle.module_gen.specs.Codes.{condition, constant_of}
use Rattle.module_gen.proofs.codes.choice.Goals as goal

pub returns : goal.returns
returns c =
    let ty = c.args.ty in
    let parts = ap₂ (IfElse (Value ty)) c.in_ok-then_part.ensures c.in_ok-else_part.ensures in
    c.in_ok-push-2.ensures.items
    ∙ ap (λ l. l ++ LocalSet 0 ∷ []) (c.in_ok-push.ensures.items ∙ ap₂ (λ l i. l ++ i ∷ []) c.in_ok-code.ensures parts)
    ∙ append_assoc (condition ty) (IfElse (Value ty) (code_of (constant_of ty c.args.if_so ∷ [])) (code_of (constant_of ty c.args.if_not ∷ [])) ∷ []) (LocalSet 0 ∷ [])
