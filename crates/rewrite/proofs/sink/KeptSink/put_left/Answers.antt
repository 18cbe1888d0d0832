use Rattle.std.proofs.Common.{◌≡◌, ◌++◌}
use Rattle.std.proofs.lemmas.Result.{on_ok_weaker}
use Rattle.branch_resolve.specs.Scopes.{ends}
use Rattle.i64_split.specs.Pushing.{instrs}
use Rattle.rewrite.specs.Emitted.{block_ends_code}
use Rattle.rewrite.proofs.Joined.{onto_added}
use Rattle.rewrite.proofs.sink.KeptSink.put_left.Goals as goal

pub returns : goal.returns
returns c =
    let w = c.args.setting.now in
    let passed = block_ends_code w (ends c.args.around.now.scopes c.args.label) in
    let old = c.args.code.now.items in
    let new = c.push_left.new.code.items in
    on_ok_weaker c.push_left.result (λ (e : new ≡ old ++ instrs passed) t. onto_added old new passed t e) c.push_left.ensures
