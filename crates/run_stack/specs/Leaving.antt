-- A step that leaves the innermost function, from its code and its operands.
use Rattle.std.specs.Prelude.{◌≡◌, ◌==◌, ◌<◌, ℕ, List, [], ◌∷◌, length, slice_index_or, Option, None, Some, cond}
use Rattle.wasm_sem.specs.Types.{Value}
use Rattle.wasm_num.specs.declared.Value.TheVariants.{I32}
use Rattle.module_ast.specs.Structure.{Tree, done, plain, br, br_if, br_table, return_}
use Rattle.wasm_sem.specs.Execution.{outermost, Frame, Configuration, configuration, at_zero}
use Rattle.run_stack.specs.Flat.{Flat, first_rest, lowest_arity, outermost_number}

-- `above`, the number of operands above those that a branch takes, if its label is the outermost one
abbrev pub above_outermost : (number outermost above : ℕ) → Option ℕ
above_outermost n last above = cond (n == last) (Some above) None

-- how many operands are above the results, if the next step leaves the function, whose outermost label has the number
-- `outermost`
abbrev pub above_results : Tree → (ops : List Value) → (outermost : ℕ) → Option ℕ
above_results done o last = above_outermost 0 last 0
above_results (plain (br n) k) o last = above_outermost n last 0
above_results (plain (br_if n) k) (I32 x ∷ o) last = at_zero x None (above_outermost n last 1)
above_results (plain (br_table ns n) k) (I32 x ∷ o) last = above_outermost (slice_index_or ns x n) last 1
above_results (plain return_ k) o last = Some 0
above_results _ o last = None

-- if the code begins with a branch that needs a number, the number is on top
abbrev pub HasNumber : Tree → (ops : List Value) → Type 0
HasNumber (plain (br_if n) k) o = (x : ℕ) × (rest : List Value) × (o ≡ I32 x ∷ rest)
HasNumber (plain (br_table ns n) k) o = (x : ℕ) × (rest : List Value) × (o ≡ I32 x ∷ rest)
HasNumber _ o = Unit {0}

-- the next step leaves the last frame with more than four values, which are below the topmost `above` operands
pub record LeavesFrom (f : Flat) (above : ℕ) : Type 0 where
  pub last : length f.bases ≡ 1
  pub many : 4 < lowest_arity f.spots
  pub leaves : above_results (first_rest f.spots) f.values (outermost_number f) ≡ Some above

-- likewise, from the frames
pub record LeavesMany (above : ℕ) (fr : Frame) (below : List Frame) : Type 0 where
  pub last : below ≡ []
  pub many : 4 < (outermost fr.top fr.outer).arity
  pub leaves : above_results fr.top.rest fr.top.ops (length fr.outer) ≡ Some above

-- likewise, from a configuration
abbrev pub LeavesLast : (above : ℕ) → Configuration → Type 0
LeavesLast above (configuration e []) = ⊥
LeavesLast above (configuration e (fr ∷ below)) = LeavesMany above fr below
