-- The block that begins at a place is the one in its row.
use Rattle.std.proofs.Common.{◌≡◌, ℕ, zero, suc, ◌+◌, ◌-◌, ◌<◌, ◌≤◌, ◌==◌, ◌⊎◌, inl, inr, List, ◌∷◌, ◌++◌, length, get_or, ℤ, Option, Some, None, option_map, option_and_then, slice_get, pos, negsuc, false, cond, nat_lt, refl, sym, ap, ◌∙◌, arith, length-append}
use Rattle.std.proofs.lemmas.Bool.{cases_lt}
use Rattle.std.proofs.lemmas.Bool.Decides.{nat_tests}
use Rattle.std.proofs.lemmas.List.{get_or_append_left, get_or-append_right}
use Rattle.std.proofs.lemmas.Option.{slice_get-map}
use Rattle.wasm_num.specs.declared.BlockKind.TheVariants as kinds
use Rattle.wasm_sem.specs.Types.{Loc, Module}
use Rattle.module_ast.specs.Structure.{Tree, done, plain, block, loop, if_then, if_else}
use Rattle.module_ast.specs.Places.{code_size}
use Rattle.wasm_sem.specs.Execution.{Callee, host, hook, own, callees_of}
use Rattle.wasm_sem.proofs.Straight.{some_is, none_some}
use Rattle.shadow_replay.specs.Blocks.{of_kind, block_in, callee_block, block_at}
use Rattle.shadow_replay.specs.BlockRows.{code_row, row_block, callee_row, block_rows}
use Rattle.shadow_replay.specs.declared.blocks.Block.{Block}
use Rattle.shadow_replay.proofs.BlocksFound.{inside_part, at_part}

-- a row has a place for each position
row_length : (code : Tree) → length (code_row code) ≡ code_size code
row_length done = refl
row_length (plain i k) = omega (arith, row_length k)
row_length (block ty body k) = omega (arith, row_length body, row_length k, length-append (code_row body) (None ∷ code_row k))
row_length (loop ty body k) = omega (arith, row_length body, row_length k, length-append (code_row body) (None ∷ code_row k))
row_length (if_then ty body k) = omega (arith, row_length body, row_length k, length-append (code_row body) (None ∷ code_row k))
row_length (if_else ty body other k) =
    omega (arith, row_length body, row_length other, row_length k, length-append (code_row other) (None ∷ code_row k), length-append (code_row body) (of_kind kinds.Else ty ∷ (code_row other ++ None ∷ code_row k)))

-- ---- before code none of its blocks begins

earlier : (p at : ℕ) → p < at → (p == at) ≡ false
earlier p at h = grind (arith, nat_tests)

before_part : {A : Type 0} (p at end : ℕ) (here within behind : A) → p < at → p < end → cond (p == at) here (cond (nat_lt p end) within behind) ≡ within
before_part p at end here within behind h k =
    ap (λ b. cond b here (cond (nat_lt p end) within behind)) (earlier p at h) ∙ grind (arith, nat_tests)

none_before : (p at : ℕ) (code : Tree) → p < at → block_in p at code ≡ None
none_before p at done h = refl
none_before p at (plain i k) h = none_before p (at + 1) k (omega (arith, h))
none_before p at (block ty body k) h = before_part p at _ _ _ _ h (omega (arith, h)) ∙ none_before p (at + 1) body (omega (arith, h))
none_before p at (loop ty body k) h = before_part p at _ _ _ _ h (omega (arith, h)) ∙ none_before p (at + 1) body (omega (arith, h))
none_before p at (if_then ty body k) h = before_part p at _ _ _ _ h (omega (arith, h)) ∙ none_before p (at + 1) body (omega (arith, h))
none_before p at (if_else ty body other k) h = before_part p at _ _ _ _ h (omega (arith, h)) ∙ none_before p (at + 1) body (omega (arith, h))

-- ---- a part of a body, and what stands from its end on

-- these places, from a position on, are what is found there
abbrev IsRowOf : (at : ℕ) → List (Option Block) → (ℕ → Option Block) → Type 0
IsRowOf at row found = (n : ℕ) → get_or row n None ≡ found (at + n)

abbrev part : (at end : ℕ) → Option Block → (within behind : ℕ → Option Block) → ℕ → Option Block
part at end here within behind p = cond (p == at) here (cond (nat_lt p end) (within p) (behind p))

module _ (at size : ℕ) (here : Option Block) (inner rest : List (Option Block)) (within behind : ℕ → Option Block) (long : length inner ≡ size)
    (inner_is : IsRowOf (at + 1) inner within) (rest_is : IsRowOf (at + size + 1) rest behind) where
  in_part : (m : ℕ) → (m < size) ⊎ (size ≤ m) → get_or (inner ++ rest) m None ≡ part at (at + size + 1) here within behind (at + suc m)
  in_part m (inl h) =
      get_or_append_left inner rest None m (omega (arith, h, long))
      ∙ inner_is m
      ∙ ap within (omega arith)
      ∙ sym (inside_part (at + suc m) at (at + size + 1) here (within (at + suc m)) (behind (at + suc m)) (omega arith) (omega (arith, h)))
  in_part m (inr h) =
      get_or-append_right inner rest size m None long h
      ∙ rest_is (m - size)
      ∙ ap behind (omega (arith, h))
      ∙ sym (at_or_behind (at + suc m) (omega arith) (omega (arith, h)))
    where
      at_or_behind : (p : ℕ) → at < p → at + size + 1 ≤ p → part at (at + size + 1) here within behind p ≡ behind p
      at_or_behind p a b = grind (arith, nat_tests, a, b)

  part_is : IsRowOf at (here ∷ (inner ++ rest)) (part at (at + size + 1) here within behind)
  part_is zero = sym (ap (λ p. part at (at + size + 1) here within behind p) (omega arith) ∙ at_part at here _)
  part_is (suc m) = in_part m (cases_lt m size)

-- an end, at which nothing begins, and the code behind it
end_is : (end : ℕ) (k : Tree) → IsRowOf (end + 1) (code_row k) (λ p. block_in p (end + 1) k) → IsRowOf end (None ∷ code_row k) (λ p. block_in p (end + 1) k)
end_is end k h zero = sym (none_before (end + 0) (end + 1) k (omega arith))
end_is end k h (suc n) = h n ∙ ap (λ p. block_in p (end + 1) k) (omega arith)

-- ---- a row

-- where code begins here, what is found in it
abbrev from : ℕ → Tree → ℕ → Option Block
from at code p = block_in p at code

-- a block, and what stands after its end
block_row : (at : ℕ) (here : Option Block) (body k : Tree) → IsRowOf (at + 1) (code_row body) (from (at + 1) body)
    → IsRowOf (at + code_size body + 1 + 1) (code_row k) (from (at + code_size body + 1 + 1) k)
    → IsRowOf at (here ∷ (code_row body ++ None ∷ code_row k)) (part at (at + code_size body + 1) here (from (at + 1) body) (from (at + code_size body + 1 + 1) k))
block_row at here body k inner rest =
    let end = at + code_size body + 1 in
    part_is at (code_size body) here (code_row body) (None ∷ code_row k) (from (at + 1) body) (from (end + 1) k) (row_length body) inner (end_is end k rest)

row_is : (at : ℕ) (code : Tree) → IsRowOf at (code_row code) (from at code)
row_is at done = λ n. refl
row_is at (plain i k) = end_is at k (row_is (at + 1) k)
row_is at (block ty body k) = block_row at (of_kind kinds.Block ty) body k (row_is (at + 1) body) (row_is (at + code_size body + 1 + 1) k)
row_is at (loop ty body k) = block_row at (of_kind kinds.Loop ty) body k (row_is (at + 1) body) (row_is (at + code_size body + 1 + 1) k)
row_is at (if_then ty body k) = block_row at (of_kind kinds.If ty) body k (row_is (at + 1) body) (row_is (at + code_size body + 1 + 1) k)
row_is at (if_else ty body other k) =
    let middle = at + code_size body + 1 in
    let end = middle + code_size other + 1 in
    part_is at (code_size body) (of_kind kinds.If ty) (code_row body) (of_kind kinds.Else ty ∷ (code_row other ++ None ∷ code_row k)) (from (at + 1) body)
    (part middle end (of_kind kinds.Else ty) (from (middle + 1) other) (from (end + 1) k)) (row_length body) (row_is (at + 1) body)
    (block_row middle (of_kind kinds.Else ty) other k (row_is (middle + 1) other) (row_is (end + 1) k))

-- ---- a place of a module

none_negative : (o : Option Callee) (n : ℕ) → None ≡ option_and_then (callee_block (negsuc n)) o
none_negative None n = refl
none_negative (Some (own ty locals code)) n = refl
none_negative (Some (host ty)) n = refl
none_negative (Some (hook ty)) n = refl

in_row : (o : Option Callee) (row : List (Option Block)) (z : ℤ) → Some row ≡ option_map callee_row o → row_block row z ≡ option_and_then (callee_block z) o
in_row None row z h = absurd (none_some (sym h))
in_row (Some c) row (negsuc n) h = none_negative (Some c) n
in_row (Some (own ty locals code)) row (pos n) h = ap (λ r. get_or r n None) (some_is h) ∙ row_is 0 code n ∙ ap (λ p. block_in p 0 code) (omega arith)
in_row (Some (host ty)) row (pos n) h = ap (λ r. get_or r n None) (some_is h)
in_row (Some (hook ty)) row (pos n) h = ap (λ r. get_or r n None) (some_is h)

in_none : (o : Option Callee) (z : ℤ) → None ≡ option_map callee_row o → None ≡ option_and_then (callee_block z) o
in_none None z h = refl
in_none (Some c) z h = absurd (none_some h)

module _ (m : Module) (p : Loc) (rows : List (List (Option Block))) (are : rows ≡ block_rows m) where
  row_at : slice_get rows p.func ≡ option_map callee_row (slice_get (callees_of m) p.func)
  row_at = ap (λ rs. slice_get rs p.func) are ∙ slice_get-map callee_row (callees_of m) p.func

  -- in the row of its function
  pub looked_up : (row : List (Option Block)) (found : Option Block) → Some row ≡ slice_get rows p.func → found ≡ row_block row p.instr → found ≡ block_at m p
  looked_up row found there is = is ∙ in_row (slice_get (callees_of m) p.func) row p.instr (there ∙ row_at)

  -- none past the last function
  pub looked_past : None ≡ slice_get rows p.func → None ≡ block_at m p
  looked_past there = in_none (slice_get (callees_of m) p.func) p.instr (there ∙ row_at)
