use Rattle.std.proofs.Common.{◌≡◌, ◌∙◌, ap, sym, subst}
use Rattle.module_ast.specs.declared.code.Instr.TheVariants.{Block, Loop, If}
use Rattle.module_ast.specs.Structure.{onto, onto_push, block, loop, if_then}
use Rattle.rewrite.specs.declared.sink.Opening.{Opening}
use Rattle.rewrite.specs.Emitted.{opened}
use Rattle.rewrite.proofs.sink.KeptSink.put_block.Goals as goal

pub returns-in_ok-push-in-Block : goal.returns-in_ok-push-in-Block
returns-in_ok-push-in-Block c a t e =
    let old = c.args.code.now.items in
    subst (λ (o : Opening). onto c.push.new.self.items t ≡ onto old (opened o c.args.ty a t)) (sym c.in-Block.is)
    (ap (λ l. onto l t) c.in_ok-push-in-Block.ensures.items ∙ onto_push old (Block c.args.ty c.args.inside) t ∙ ap (λ x. onto old (block c.args.ty x t)) e)

pub returns-in_ok-push-in-Loop : goal.returns-in_ok-push-in-Loop
returns-in_ok-push-in-Loop c a t e =
    let old = c.args.code.now.items in
    subst (λ (o : Opening). onto c.push-in-Loop.new.self.items t ≡ onto old (opened o c.args.ty a t)) (sym c.in-Loop.is)
    (ap (λ l. onto l t) c.in_ok-push-in-Loop.ensures.items ∙ onto_push old (Loop c.args.ty c.args.inside) t ∙ ap (λ x. onto old (loop c.args.ty x t)) e)

pub returns-in_ok-push-in-If : goal.returns-in_ok-push-in-If
returns-in_ok-push-in-If c a t e =
    let old = c.args.code.now.items in
    subst (λ (o : Opening). onto c.push-in-If.new.self.items t ≡ onto old (opened o c.args.ty a t)) (sym c.in-If.is)
    (ap (λ l. onto l t) c.in_ok-push-in-If.ensures.items ∙ onto_push old (If c.args.ty c.args.inside) t ∙ ap (λ x. onto old (if_then c.args.ty x t)) e)
