use Rattle.std.proofs.Common.{◌≡◌, ◌∙◌, ap, sym}
use Rattle.std.proofs.lemmas.Result.{on_ok_weaker}
use Rattle.module_ast.specs.declared.code.BlockType.TheVariants.{Empty}
use Rattle.module_ast.specs.Structure.{Tree, onto, if_then, done, plains}
use Rattle.module_ast.specs.Places.{left_by}
use Rattle.i64_split.specs.Split.{gets}
use Rattle.rewrite.specs.Setting.{tell_ends}
use Rattle.rewrite.specs.Rewrite.{if_taken}
use Rattle.rewrite.proofs.Blocks.{left_is}
use Rattle.rewrite.proofs.Joined.{onto_added}
use Rattle.rewrite.proofs.setting.Setting.push_taken.Goals as goal

pub returns-then-not-has : goal.returns-then-not-has
returns-then-not-has g c ss e k =
    let w = c.args.self.now in
    ap (λ b. g.S.Sink.whole c.args.sink.now (onto c.args.code.now.items (if_taken b w (left_by ss c.args.label) c.args.temps.now k))) (sym c.if-not-has.true ∙ c.has.ensures)

pub returns : goal.returns
returns g c =
    let w = c.args.self.now in
    let bs = c.args.around.now.scopes in
    let l = c.args.label in
    let old = c.args.code.now.items in
    let one = c.push_gets.new.code.items in
    let first = g.S.Sink.whole c.args.sink.now in
    let ts = c.args.temps.now in
    on_ok_weaker c.put_block.result (λ (put : (a t : Tree) → c.in_ok-told.told ≡ g.S.Sink.made a → g.S.Sink.whole c.put_block.new.self (onto c.put_block.new.code.items t) ≡ first (onto one (if_then Empty a t))) ss e k.
    let inside : Tree = plains (tell_ends w (left_by ss l)) done in
    let told : c.in_ok-told.told ≡ g.S.Sink.made inside =
    c.in_ok-told.ensures ∙ c.in_ok-put_left.ensures done
    ∙ ap (λ passed. g.S.Sink.whole c.new-ends.result (onto c.in_ok-inside.inside.items (plains passed done))) (left_is w bs ss l e)
    ∙ ap (λ x. g.S.Sink.whole c.new-ends.result (onto x inside)) c.in_ok-inside.ensures
    ∙ c.new-ends.ensures inside in
    put inside k told
    ∙ ap first (onto_added old one (gets ts) (if_then Empty inside k) c.in_ok-push_gets.ensures.added)
    ∙ ap (λ b. first (onto old (if_taken b w (left_by ss l) ts k))) (sym c.if-not-has.false ∙ c.has.ensures)) c.put_block.ensures
