use Rattle.std.proofs.Common.{◌∙◌, ap}
use Rattle.module_ast.specs.Structure.{onto, onto_push}
use Rattle.rewrite.proofs.sink.put.Goals as goal

pub returns : goal.returns
returns g c t =
    let old = c.args.code.now.items in
    c.settle.ensures t ∙ ap (g.S.Sink.whole c.args.sink.now) (ap (λ l. onto l t) c.in_ok-push.ensures.items ∙ onto_push old c.args.instr t)
