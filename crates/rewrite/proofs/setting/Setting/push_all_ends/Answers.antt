use Rattle.std.proofs.Common.{◌∙◌, ◌++◌, ap, sym, map, append-nil}
use Rattle.branch_resolve.specs.Scopes.{end_of}
use Rattle.i64_split.specs.Pushing.{instrs}
use Rattle.rewrite.proofs.Blocks.{no_ends}
use Rattle.rewrite.proofs.setting.Setting.push_all_ends.Goals as goal

pub returns-then-not-has : goal.returns-then-not-has
returns-then-not-has c =
    let old = c.args.code.now.items in
    sym (ap (λ l. old ++ instrs l) (no_ends c.args.self.now (map end_of c.args.scopes.now) (sym c.has.ensures ∙ c.if-not-has.true)) ∙ append-nil old)
