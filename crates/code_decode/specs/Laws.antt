-- Bytes have one reading.
use Rattle.std.specs.Prelude.{◌≡◌, ℕ, List}
use Rattle.leb_binary.specs.Leb.{IsFront}
use Rattle.module_ast.specs.Binary.{CodeNode, BodyNode, IsBody, IsExpr}

-- bytes are at most one body
abbrev pub BodiesAreUnique : Type 0
BodiesAreUnique = (bytes : List ℕ) (b c : BodyNode) → IsBody bytes b → IsBody bytes c → b ≡ c

-- bytes begin with at most one expression, and what is behind it is determined
abbrev pub ExpressionsAreUnique : Type 0
ExpressionsAreUnique = (bytes r s : List ℕ) (t u : CodeNode) → IsFront IsExpr bytes r t → IsFront IsExpr bytes s u → (r ≡ s) × (t ≡ u)
