use Rattle.std.proofs.Common.{◌∙◌, ◌++◌, ◌∷◌, [], ap, append_assoc}
use Rattle.std.proofs.lemmas.Result.{on_ok_weaker}
use Rattle.module_ast.specs.Structure.{local_tee}
use Rattle.i64_split.specs.Split.{sets, gets}
use Rattle.i64_split.specs.Pushing.{instrs}
use Rattle.rewrite.proofs.Joined.{added_two}
use Rattle.rewrite.proofs.watching.push_keep_first.Goals as goal

pub returns : goal.returns
returns c =
    let old = c.args.code.now.items in
    let one = c.push_sets.new.code.items in
    let two = c.push_one.new.code.items in
    let new = c.push_gets.new.code.items in
    let first = local_tee c.args.first ∷ [] in
    let rest = c.args.rest.now in
    on_ok_weaker c.push_gets.result
    (λ e. added_two old two new (sets rest ++ first) (gets rest) (added_two old one two (sets rest) first c.in_ok-push_sets.ensures.added c.in_ok-push_one.ensures.added) e
    ∙ ap (λ is. old ++ instrs is) (append_assoc (sets rest) first (gets rest))) c.push_gets.ensures.added
