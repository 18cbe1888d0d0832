use Rattle.std.proofs.Common.{◌≡◌, List, ◌++◌, ◌∷◌, [], ◌∙◌, ap, pos, append_assoc}
use Rattle.std.specs.Int.{w32}
use Rattle.std.proofs.lemmas.Int.{to_z_pos}
use Rattle.std.proofs.lemmas.Result.{on_ok_weaker}
use Rattle.module_ast.specs.Structure.{Plain, local_set, local_get, call_indirect}
use Rattle.hook_mono.specs.declared.HookKey.TheVariants.{IndirectPre}
use Rattle.i64_split.specs.Split.{save_code, word_code, words_code}
use Rattle.i64_split.specs.Pushing.{instrs}
use Rattle.rewrite.specs.Setting.{constant, tell}
use Rattle.rewrite.specs.Templates.{post_code}
use Rattle.rewrite.proofs.Joined.{added_two}
use Rattle.rewrite.proofs.setting.Setting.push_in_slot.Goals as goal

pub returns : goal.returns
returns c =
    let w = c.args.self.now in
    let p = c.args.position in
    let slot = c.args.slot in
    let old = c.args.code.now.items in
    let one = c.push_one.new.code.items in
    let two = c.save_in.new.code.items in
    let three = c.push_tell.new.code.items in
    let four = c.push_two.new.code.items in
    let new = c.push_post.new.code.items in
    let first = local_set slot.local ∷ [] in
    let saved = save_code c.args.args.now in
    let told = tell w (pos p) (IndirectPre c.args.params.now) ((constant c.args.ty ∷ word_code slot.ty slot.local) ++ words_code c.args.args.now) in
    let called = local_get slot.local ∷ call_indirect c.args.ty ∷ [] in
    let last = post_code w p c.args.results.now in
    let ts = c.args.temps.now in
    let types = c.in_ok-types.types in
    let call : three ≡ two ++ instrs told =
    c.in_ok-push_tell.ensures
    ∙ ap (λ z. two ++ instrs (tell w z (IndirectPre types) (constant c.args.ty ∷ words_code ts))) (to_z_pos w32 p c.requires.low)
    ∙ ap (λ ts. two ++ instrs (tell w (pos p) (IndirectPre types) (constant c.args.ty ∷ words_code ts))) c.requires.all
    ∙ ap (λ ps. two ++ instrs (tell w (pos p) (IndirectPre ps) ((constant c.args.ty ∷ word_code slot.ty slot.local) ++ words_code c.args.args.now))) c.in_ok-types.ensures in
    on_ok_weaker c.push_post.result (λ (end : new ≡ four ++ instrs last).
    added_two old four new (((first ++ saved) ++ told) ++ called) last
    (added_two old three four ((first ++ saved) ++ told) called
    (added_two old two three (first ++ saved) told
    (added_two old one two first saved c.in_ok-push_one.ensures.added c.in_ok-save_in.ensures.added)
    call) c.in_ok-push_two.ensures.added) end
    ∙ ap (λ (is : List Plain). old ++ instrs (local_set slot.local ∷ is)) (append_assoc (saved ++ told) called last)) c.push_post.ensures
