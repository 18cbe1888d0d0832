use Rattle.std.proofs.Common.{◌≡◌, ◌∙◌, ◌∷◌, [], ◌++◌, pos, ap}
use Rattle.std.specs.Int.{w32}
use Rattle.std.proofs.lemmas.Result.{on_ok_weaker}
use Rattle.std.proofs.lemmas.Int.{to_z_pos}
use Rattle.module_ast.specs.declared.code.Instr.TheVariants.{Br}
use Rattle.module_ast.specs.Lists.{when}
use Rattle.module_ast.specs.Structure.Trees as tree
use Rattle.module_ast.specs.Structure.{Tree, onto, before, plains}
use Rattle.module_ast.specs.Places.{left_by}
use Rattle.hook_select.specs.declared.GroupName.TheVariants as groups
use Rattle.hook_select.specs.Groups.{has}
use Rattle.hook_mono.specs.declared.HookKey.TheVariants as keys
use Rattle.i64_split.specs.Pushing.{instrs}
use Rattle.rewrite.specs.Setting.{constant, tell, tells, tell_ends}
use Rattle.rewrite.specs.Templates.{target_code}
use Rattle.rewrite.specs.Emitted.{target_word}
use Rattle.rewrite.proofs.Blocks.{target_is, left_is}
use Rattle.rewrite.proofs.Joined.{onto_added, passed_added}
use Rattle.rewrite.proofs.setting.Setting.push_br.Goals as goal

pub returns : goal.returns
returns g c =
    let w = c.args.self.now in
    let p = c.args.position in
    let l = c.args.label in
    let bs = c.args.around.now.scopes in
    let old = c.args.code.now.items in
    let one = c.push_branch_tell.new.code.items in
    let first = g.S.Sink.whole c.args.sink.now in
    let second = g.S.Sink.whole c.put_left.new.self in
    let two = c.put_left.new.code.items in
    let third = g.S.Sink.whole c.put.new.sink in
    let three = c.put.new.code.items in
    on_ok_weaker c.put.result (λ (put : (t : Tree) → third (onto three t) ≡ second (onto two (before (Br l) t))) ss e t.
    let told = tells w (pos p) (keys.Plain groups.Br) (constant l ∷ target_code ss l ∷ []) in
    let added : one ≡ old ++ instrs told =
    c.in_ok-push_branch_tell.ensures
    ∙ ap (λ z. old ++ instrs (when (has w.hooks groups.Br) (tell w z (keys.Plain groups.Br) (constant l ∷ constant (target_word bs l) ∷ [])))) (to_z_pos w32 p c.requires.low)
    ∙ ap (λ n. old ++ instrs (when (has w.hooks groups.Br) (tell w (pos p) (keys.Plain groups.Br) (constant l ∷ constant n ∷ [])))) (target_is bs ss l e) in
    passed_added (λ t. first (onto old t)) (λ t. first (onto one t)) (λ t. second (onto two t)) (λ t. third (onto three t)) told (tell_ends w (left_by ss l)) (tree.br l) t
    (λ t. ap first (onto_added old one told t added))
    (λ t. c.in_ok-put_left.ensures t ∙ ap (λ passed. first (onto one (plains passed t))) (left_is w bs ss l e))
    put) c.put.ensures
