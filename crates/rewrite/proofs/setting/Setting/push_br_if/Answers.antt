use Rattle.std.proofs.Common.{◌≡◌, ◌∙◌, ◌∷◌, ◌++◌, pos, ap, sym}
use Rattle.std.specs.Int.{w32}
use Rattle.std.proofs.lemmas.Result.{on_ok_weaker}
use Rattle.std.proofs.lemmas.Int.{to_z_pos}
use Rattle.module_ast.specs.declared.code.Instr.TheVariants.{BrIf}
use Rattle.module_ast.specs.Lists.{when}
use Rattle.module_ast.specs.Structure.{Tree, onto, before, plains}
use Rattle.hook_select.specs.declared.GroupName.TheVariants as groups
use Rattle.hook_select.specs.Groups.{has}
use Rattle.hook_mono.specs.declared.HookKey.TheVariants as keys
use Rattle.i64_split.specs.Pushing.{instrs}
use Rattle.i64_split.specs.Split.{words_code}
use Rattle.rewrite.specs.Setting.{constant, tell, tells}
use Rattle.rewrite.specs.Templates.{target_code, tee_code}
use Rattle.rewrite.specs.Rewrite.{br_if_before}
use Rattle.rewrite.specs.Emitted.{target_word}
use Rattle.rewrite.proofs.Blocks.{target_is}
use Rattle.rewrite.proofs.Joined.{onto_added, branch_added}
use Rattle.rewrite.proofs.setting.Setting.push_br_if.Goals as goal

pub returns-then-not-watches_br_if : goal.returns-then-not-watches_br_if
returns-then-not-watches_br_if g c =
    let w = c.args.self.now in
    let l = c.args.label in
    let first = g.S.Sink.whole c.args.sink.now in
    let old = c.args.code.now.items in
    on_ok_weaker c.put.result (λ (put : (t : Tree) → g.S.Sink.whole c.put.new.sink (onto c.put.new.code.items t) ≡ first (onto old (before (BrIf l) t))) ss e k.
    put k ∙ ap (λ b. first (onto old (br_if_before b w ss c.args.position l k))) (sym c.if-not-watches_br_if.true ∙ c.watches_br_if.ensures)) c.put.ensures

pub returns : goal.returns
returns g c =
    let w = c.args.self.now in
    let l = c.args.label in
    let p = c.args.position in
    let bs = c.args.around.now.scopes in
    let old = c.args.code.now.items in
    let one = c.push_tee.new.code.items in
    let two = c.push_branch_tell.new.code.items in
    let three = c.push_taken.new.code.items in
    let new = c.put-2.new.code.items in
    let ts = c.as_slice-temps.result.now in
    let first = g.S.Sink.whole c.args.sink.now in
    let second = g.S.Sink.whole c.push_taken.new.sink in
    let third = g.S.Sink.whole c.put-2.new.sink in
    on_ok_weaker c.put-2.result (λ (put : (t : Tree) → third (onto new t) ≡ second (onto three (before (BrIf l) t))) ss e k.
    let told = tells w (pos p) (keys.Plain groups.BrIf) (constant l ∷ target_code ss l ∷ words_code ts) in
    let added : two ≡ one ++ instrs told =
    c.in_ok-push_branch_tell.ensures
    ∙ ap (λ z. one ++ instrs (when (has w.hooks groups.BrIf) (tell w z (keys.Plain groups.BrIf) (constant l ∷ constant (target_word bs l) ∷ words_code ts)))) (to_z_pos w32 p c.requires.low)
    ∙ ap (λ n. one ++ instrs (when (has w.hooks groups.BrIf) (tell w (pos p) (keys.Plain groups.BrIf) (constant l ∷ constant n ∷ words_code ts)))) (target_is bs ss l e) in
    branch_added (λ t. first (onto old t)) (λ t. first (onto two t)) (λ t. second (onto three t)) (λ t. third (onto new t)) w ss p l ts k
    (λ t. ap first (onto_added one two told t added ∙ onto_added old one (tee_code ts) (plains told t) c.in_ok-push_tee.ensures))
    (c.in_ok-push_taken.ensures ss e) put (c.as_slice-temps.ensures ∙ c.one_temp-kept.ensures)
    ∙ ap (λ b. first (onto old (br_if_before b w ss p l k))) (sym c.if-not-watches_br_if.false ∙ c.watches_br_if.ensures)) c.put-2.ensures
