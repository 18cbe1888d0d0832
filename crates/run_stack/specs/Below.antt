-- Values that are read off the top, and stay.
use Rattle.std.specs.Prelude.{◌≡◌, ℕ, ◌+◌, ◌<◌, List, [], length, drop, Option, None, Some}
use Rattle.wasm_sem.specs.Types.{Value}
use Rattle.module_ast.specs.Validation.{push}
use Rattle.wasm_sem.specs.declared.Answer.{Answer}
use Rattle.wasm_sem.specs.declared.Answer.TheVariants.{Returned}
use Rattle.run_stack.specs.Flat.{Flat}

-- `count` values are, in this order, below the topmost `above` values
pub record IsBelow (above count : ℕ) (vs values : List Value) : Type 0 where
  pub are : drop above values ≡ push vs (drop (above + count) values)
  pub size : length vs ≡ count

-- a frame runs, or the last frame was left with these values
abbrev pub IsAnswerOf : Option Answer → Flat → Type 0
IsAnswerOf None f = 0 < length f.bases
IsAnswerOf (Some (Returned vs)) f = (f.bases ≡ []) × (f.values ≡ push vs [])
IsAnswerOf (Some _) f = ⊥
