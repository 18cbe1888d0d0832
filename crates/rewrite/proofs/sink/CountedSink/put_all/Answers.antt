use Rattle.std.proofs.Common.{◌∙◌, ap, arith, List, ℕ}
use Rattle.module_ast.specs.Lists.{first_or}
use Rattle.rewrite.specs.Emitted.{all_ends_code}
use Rattle.rewrite.proofs.EndSums.{first_is}
use Rattle.rewrite.proofs.Sunk.{onto_plains}
use Rattle.rewrite.proofs.sink.CountedSink.put_all.Goals as goal

pub returns : goal.returns
returns c t =
    let w = c.args._setting.now in
    let bs = c.args.around.now.scopes in
    let all = c.all.ensures ∙ ap (λ (k : List ℕ). first_or k 0) c.requires.sums ∙ first_is w bs in
    omega (arith, c.add.ensures, all, onto_plains c.args._code.now.items (all_ends_code w bs) t)
