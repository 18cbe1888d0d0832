use Rattle.std.proofs.Common.{◌≡◌, ◌∙◌, ◌++◌, ap, sym, append-nil}
use Rattle.std.proofs.lemmas.Result.{on_ok_weaker}
use Rattle.branch_resolve.specs.Scopes.{ends}
use Rattle.i64_split.specs.Pushing.{instrs}
use Rattle.rewrite.specs.Emitted.{block_ends_code}
use Rattle.rewrite.proofs.Blocks.{no_ends}
use Rattle.rewrite.proofs.setting.Setting.push_left.Goals as goal

pub returns-then-not-has : goal.returns-then-not-has
returns-then-not-has c =
    let old = c.args.code.now.items in
    sym (ap (λ l. old ++ instrs l) (no_ends c.args.self.now (ends c.args.scopes.now c.args.label) (sym c.has.ensures ∙ c.if-not-has.true)) ∙ append-nil old)

pub returns : goal.returns
returns c =
    let w = c.args.self.now in
    let old = c.args.code.now.items in
    let new = c.push_ends.new.code.items in
    on_ok_weaker c.push_ends.result (λ (told : new ≡ old ++ instrs (block_ends_code w c.deref.result.now)).
    told ∙ ap (λ l. old ++ instrs (block_ends_code w l)) (c.deref.ensures.value ∙ c.in_ok-ends.ensures)) c.push_ends.ensures
