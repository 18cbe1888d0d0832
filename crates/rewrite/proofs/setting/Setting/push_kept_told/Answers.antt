use Rattle.std.proofs.Common.{◌≡◌, ◌∙◌, ◌++◌, ◌∷◌, take, ap, rules}
use Rattle.std.proofs.lemmas.Result.{on_ok_weaker}
use Rattle.i64_split.specs.Split.{words_code}
use Rattle.i64_split.specs.Pushing.{instrs}
use Rattle.rewrite.specs.Setting.{tell}
use Rattle.rewrite.specs.Templates.{args_code, keep_code, tee_code, kept_code}
use Rattle.rewrite.proofs.Joined.{added_two}
use Rattle.rewrite.proofs.setting.Setting.push_kept_told.Goals as goal

pub returns : goal.returns
returns c =
    let w = c.args.self.now in
    let old = c.args.code.now.items in
    let kept = c.push_kept.new.code.items in
    let new = c.push_told.new.code.items in
    let n = c.args.operands in
    let ts = c.args.temps.now in
    on_ok_weaker c.push_told.result (λ e i is.
    let told : new ≡ kept ++ instrs (tell w c.args.position c.args.watch.now.key (args_code c.args.watch.now.told ++ words_code ts)) = search rules in
    let laid : kept ≡ old ++ instrs (kept_code n i ts) =
    c.in_ok-push_kept.ensures i is ∙ ap (λ xs. old ++ instrs (keep_code xs ++ (i ∷ tee_code c.behind-left.result.now))) c.first_of-first.ensures
    ∙ ap (λ ys. old ++ instrs (keep_code (take n ts) ++ (i ∷ tee_code ys))) c.behind-left.ensures in
    added_two old kept new (kept_code n i ts) _ laid told) c.push_told.ensures
