use Rattle.std.proofs.Common.{◌≡◌, ◌++◌, ◌∷◌, [], rules}
use Rattle.std.proofs.lemmas.Result.{on_ok_weaker}
use Rattle.module_ast.specs.Structure.{i32_const, call}
use Rattle.i64_split.specs.Split.{words_code}
use Rattle.i64_split.specs.Pushing.{instrs}
use Rattle.rewrite.specs.Setting.{constant, hook_index}
use Rattle.rewrite.specs.Templates.{args_code}
use Rattle.rewrite.proofs.Joined.{added_two}
use Rattle.rewrite.proofs.setting.Setting.push_told.Goals as goal

pub returns : goal.returns
returns c =
    let w = c.args.self.now in
    let old = c.args.code.now.items in
    let one = c.push_location.new.code.items in
    let two = c.push_args.new.code.items in
    let three = c.push_values.new.code.items in
    let new = c.push_call.new.code.items in
    let at = constant w.site.func ∷ i32_const c.args.position ∷ [] in
    let first = args_code c.args.watch.now.told in
    let words = words_code c.args.temps.now in
    let located : one ≡ old ++ instrs at = search rules in
    on_ok_weaker c.push_call.result (λ (told : new ≡ three ++ instrs (call (hook_index w c.args.watch.now.key) ∷ [])).
    added_two old three new ((at ++ first) ++ words) _
    (added_two old two three (at ++ first) words
    (added_two old one two at first located c.in_ok-push_args.ensures)
    c.in_ok-push_values.ensures.added) told) c.push_call.ensures
