use Rattle.std.proofs.Common.{◌≡◌, ◌++◌}
use Rattle.std.proofs.lemmas.Result.{on_ok_weaker}
use Rattle.i64_split.specs.Pushing.{instrs}
use Rattle.rewrite.specs.Emitted.{all_ends_code}
use Rattle.rewrite.proofs.Joined.{onto_added}
use Rattle.rewrite.proofs.sink.KeptSink.put_all.Goals as goal

pub returns : goal.returns
returns c =
    let passed = all_ends_code c.args.setting.now c.args.around.now.scopes in
    let old = c.args.code.now.items in
    let new = c.push_all_ends.new.code.items in
    on_ok_weaker c.push_all_ends.result (λ (e : new ≡ old ++ instrs passed) t. onto_added old new passed t e) c.push_all_ends.ensures
