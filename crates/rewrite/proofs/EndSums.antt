-- The bytes of the end hooks of open blocks, summed from the outermost on.
use Rattle.std.proofs.Common.{◌≡◌, ℕ, zero, suc, ◌+◌, ◌-◌, List, [], ◌∷◌, length, drop, take, map, refl, sym, ap, ◌∙◌, arith}
use Rattle.module_ast.specs.Lists.{first_or}
use Rattle.branch_resolve.specs.declared.Block.{Block}
use Rattle.branch_resolve.specs.Scopes.{end_of, ends}
use Rattle.rewrite.specs.Setting.{Setting}
use Rattle.rewrite.specs.Emitted.{block_end_code, block_ends_code, all_ends_code}
use Rattle.rewrite.specs.Sizes.{plains_length, end_sums}
use Rattle.rewrite.proofs.CodeBytes.{plains_append}

module _ (w : Setting) where
  -- a sum for each block
  pub sums_count : (bs : List Block) → length (end_sums w bs) ≡ length bs
  sums_count [] = refl
  sums_count (b ∷ bs) = ap suc (sums_count bs)

  -- the first is that of all
  pub first_is : (bs : List Block) → first_or (end_sums w bs) 0 ≡ plains_length (all_ends_code w bs)
  first_is [] = refl
  first_is (b ∷ bs) = refl

  -- with one more block
  pub sums_more : (b : Block) (bs : List Block) → end_sums w (b ∷ bs) ≡ (plains_length (block_end_code w (end_of b)) + first_or (end_sums w bs) 0) ∷ end_sums w bs
  sums_more b bs =
      ap (λ n. n ∷ end_sums w bs) (plains_append (block_end_code w (end_of b)) (all_ends_code w bs) ∙ ap (λ n. plains_length (block_end_code w (end_of b)) + n) (sym (first_is bs)))

  parted : (n : ℕ) (bs : List Block) → plains_length (all_ends_code w bs) ≡ plains_length (block_ends_code w (map end_of (take n bs))) + first_or (drop n (end_sums w bs)) 0
  parted zero bs = omega (arith, first_is bs)
  parted (suc n) [] = refl
  parted (suc n) (b ∷ bs) =
      let here = block_end_code w (end_of b) in
      omega (arith, plains_append here (all_ends_code w bs), plains_append here (block_ends_code w (map end_of (take n bs))), parted n bs)

  -- the blocks that a branch leaves make the difference
  pub left_sum : (l : ℕ) (bs : List Block) → plains_length (block_ends_code w (ends bs l)) ≡ first_or (end_sums w bs) 0 - first_or (drop (l + 1) (end_sums w bs)) 0
  left_sum l bs = omega (arith, parted (l + 1) bs, first_is bs)
