use Rattle.std.proofs.Common.{◌≡◌, ◌∙◌, ◌++◌, pos, ap}
use Rattle.std.specs.Int.{w32}
use Rattle.std.proofs.lemmas.Result.{on_ok_weaker}
use Rattle.std.proofs.lemmas.Int.{to_z_pos}
use Rattle.module_ast.specs.declared.code.Instr.TheVariants.{Return}
use Rattle.module_ast.specs.Structure.Trees as tree
use Rattle.module_ast.specs.Structure.{Tree, onto, before, plains}
use Rattle.i64_split.specs.Pushing.{instrs}
use Rattle.rewrite.specs.Setting.{tell_ends}
use Rattle.rewrite.specs.Templates.{tell_results}
use Rattle.rewrite.proofs.Blocks.{all_is}
use Rattle.rewrite.proofs.Joined.{onto_added, passed_added}
use Rattle.rewrite.proofs.setting.Setting.push_return.Goals as goal

pub returns : goal.returns
returns g c =
    let w = c.args.self.now in
    let p = c.args.position in
    let bs = c.args.around.now.scopes in
    let old = c.args.code.now.items in
    let one = c.push_results.new.code.items in
    let first = g.S.Sink.whole c.args.sink.now in
    let second = g.S.Sink.whole c.put_all.new.self in
    let two = c.put_all.new.code.items in
    let third = g.S.Sink.whole c.put.new.sink in
    let three = c.put.new.code.items in
    on_ok_weaker c.put.result (λ (put : (t : Tree) → third (onto three t) ≡ second (onto two (before Return t))) ss e t.
    let told = tell_results w (pos p) in
    let added : one ≡ old ++ instrs told = c.in_ok-push_results.ensures ∙ ap (λ z. old ++ instrs (tell_results w z)) (to_z_pos w32 p c.requires.low) in
    passed_added (λ t. first (onto old t)) (λ t. first (onto one t)) (λ t. second (onto two t)) (λ t. third (onto three t)) told (tell_ends w ss) tree.return_ t
    (λ t. ap first (onto_added old one told t added))
    (λ t. c.in_ok-put_all.ensures t ∙ ap (λ passed. first (onto one (plains passed t))) (all_is w bs ss e))
    put) c.put.ensures
