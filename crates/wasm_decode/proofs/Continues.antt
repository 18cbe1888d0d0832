-- Numbers against a bound, one after another.
use Rattle.std.proofs.Common.{ℕ, List}
use Rattle.module_ast.specs.Binary.{AreWithin, IsFirstAbove}

-- the numbers before these are within the bound: what holds of the rest holds of all
pub record Continues (bound : ℕ) (rest all : List ℕ) : Type 0 where
  pub within : AreWithin bound rest → AreWithin bound all
  pub above : (v : ℕ) → IsFirstAbove bound rest v → IsFirstAbove bound all v
