use Rattle.std.proofs.Common.{◌∙◌, ap, sym, arith, ◌+◌, ◌-◌, List, drop, ℕ}
use Rattle.module_ast.specs.Lists.{first_or}
use Rattle.branch_resolve.specs.Scopes.{ends}
use Rattle.rewrite.specs.Emitted.{block_ends_code}
use Rattle.rewrite.proofs.EndSums.{left_sum}
use Rattle.rewrite.proofs.Sunk.{onto_plains}
use Rattle.rewrite.proofs.sink.CountedSink.put_left.Goals as goal

pub returns : goal.returns
returns c t =
    let w = c.args._setting.now in
    let bs = c.args.around.now.scopes in
    let l = c.args.label in
    let passed = block_ends_code w (ends bs l) in
    let left = c.left_by.ensures ∙ ap (λ (k : List ℕ). first_or k 0 - first_or (drop (l + 1) k) 0) c.requires.sums ∙ sym (left_sum w l bs) in
    omega (arith, c.add.ensures, left, onto_plains c.args._code.now.items passed t)
