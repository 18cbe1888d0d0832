use Rattle.std.proofs.Common.{◌∙◌, ◌++◌, ◌∷◌, [], ap, append_assoc}
use Rattle.std.proofs.lemmas.Result.{on_ok_weaker}
use Rattle.i64_split.specs.Pushing.{instrs}
use Rattle.rewrite.specs.Templates.{keep_code, tee_code}
use Rattle.rewrite.proofs.Joined.{added_two}
use Rattle.rewrite.proofs.watching.push_kept.Goals as goal

pub returns : goal.returns
returns c =
    let old = c.args.code.now.items in
    let one = c.push_keep.new.code.items in
    let two = c.push_one.new.code.items in
    let new = c.push_tee.new.code.items in
    let keep = keep_code c.args.operands.now in
    let tee = tee_code c.args.left.now in
    on_ok_weaker c.push_tee.result
    (λ e i is. added_two old two new (keep ++ i ∷ []) tee (added_two old one two keep (i ∷ []) c.in_ok-push_keep.ensures (c.in_ok-push_one.ensures.added ∙ ap (λ j. one ++ j ∷ []) is)) e
    ∙ ap (λ is. old ++ instrs is) (append_assoc keep (i ∷ []) tee)) c.push_tee.ensures
