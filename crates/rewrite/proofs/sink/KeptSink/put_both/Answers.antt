use Rattle.std.proofs.Common.{◌∙◌, ap}
use Rattle.module_ast.specs.declared.code.Instr.TheVariants.{IfElse}
use Rattle.module_ast.specs.Structure.{onto, onto_push, if_else}
use Rattle.rewrite.proofs.sink.KeptSink.put_both.Goals as goal

pub returns : goal.returns
returns c a b t e f =
    let old = c.args.code.now.items in
    ap (λ l. onto l t) c.in_ok-push.ensures.items ∙ onto_push old (IfElse c.args.ty c.args.inside c.args.other) t
    ∙ ap (λ x. onto old (if_else c.args.ty x c.args.other t)) e ∙ ap (λ x. onto old (if_else c.args.ty a x t)) f
