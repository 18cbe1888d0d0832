use Rattle.std.proofs.Common.{◌∙◌, ap}
use Rattle.module_ast.specs.Structure.{onto}
use Rattle.rewrite.specs.Emitted.{template_of}
use Rattle.rewrite.proofs.Joined.{onto_added, plain_added}
use Rattle.rewrite.proofs.setting.Setting.push_straight.Goals as goal

pub returns : goal.returns
returns g c ss t =
    let w = c.args.self.now in
    let p = c.args.position in
    let i = c.args.instr.now in
    let old = c.args.out.now.items in
    let mid = c.push_plain.new.code.items in
    let first = g.S.Sink.whole c.args.sink.now in
    plain_added (λ t. first (onto old t)) (λ t. g.S.Sink.whole c.settle.new.self (onto c.settle.new.code.items t)) w ss p i t c.requires.plain c.requires.staying
    (λ t. c.settle.ensures t ∙ ap first (onto_added old mid (template_of w ss p i) t (c.in_ok-push_plain.ensures ss)))
