use Rattle.std.proofs.Common.{◌≡◌, ◌∙◌, ◌∷◌, ap, sym, ◌++◌}
use Rattle.std.proofs.lemmas.Result.{on_ok_weaker}
use Rattle.module_ast.specs.Structure.{done, onto}
use Rattle.branch_resolve.specs.Scopes.{end_of}
use Rattle.i64_split.specs.Pushing.{instrs}
use Rattle.rewrite.specs.Live.{rest_code}
use Rattle.rewrite.specs.Emitted.{block_end_code}
use Rattle.rewrite.proofs.Joined.{closed_live}
use Rattle.rewrite.proofs.setting.Setting.close.Goals as goal

pub returns : goal.returns
returns c =
    let w = c.args.self.now in
    let old = c.args.out.now.items in
    let new = c.push_end.new.code.items in
    on_ok_weaker c.push_end.result (λ (e : new ≡ old ++ instrs (block_end_code w c.end_of.result)) ss s b l.
    closed_live w s ss old new l (e ∙ ap (λ x. old ++ instrs (block_end_code w x)) (c.end_of.ensures ∙ ap end_of b)) ∙ ap (λ v. onto old (rest_code w (s ∷ ss) v 0 done)) (sym c.if-not-live.false)) c.push_end.ensures
