use Rattle.std.proofs.Common.{◌≡◌, ◌∙◌, ◌+◌, ◌∷◌, List, ℕ, length, ap, ap₂, sym, arith}
use Rattle.std.proofs.lemmas.Result.{on_ok_weaker}
use Rattle.module_ast.specs.Lists.{first_or}
use Rattle.branch_resolve.specs.declared.Block.{Block}
use Rattle.branch_resolve.specs.declared.EndOf.{EndOf}
use Rattle.rewrite.specs.Emitted.{block_end_code}
use Rattle.rewrite.specs.Sizes.{plains_length, end_sums}
use Rattle.rewrite.proofs.EndSums.{sums_more}
use Rattle.rewrite.proofs.around.Around.enter.Goals as goal

pub returns-clause-sums : goal.returns-clause-sums
returns-clause-sums c =
    let w = c.args.setting.now in
    let old = c.args.self.now in
    let bytes = c.end_length.ensures.length ∙ ap (λ (e : EndOf). plains_length (block_end_code w e)) c.end_of.ensures in
    on_ok_weaker c.enter-2.result (λ (e : c.enter-2.new.self ≡ c.args.block ∷ old.scopes). record {
      sums = c.in_ok-enter.ensures ∙ ap₂ (λ (n : ℕ) (l : List ℕ). (n + first_or l 0) ∷ l) bytes c.requires.sums.sums
          ∙ sym (sums_more w c.args.block old.scopes) ∙ ap (end_sums w) (sym e);
      few = omega (arith, ap (λ (l : List ℕ). first_or l 0) c.in_ok-enter.ensures, ap (λ (l : List Block). length l) e, c.end_length.ensures.bound, c.requires.sums.few);
    }) c.enter-2.ensures.ok
