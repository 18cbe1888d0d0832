-- What each answer says of an expression.
use Rattle.std.specs.Prelude.{◌≡◌, ℕ, ◌<◌, ◌≤◌, List, true}
use Rattle.leb_binary.specs.Leb.{IsFront}
use Rattle.module_ast.specs.Structure.{Tree}
use Rattle.module_ast.specs.Binary.Grammar as grammar
use Rattle.module_ast.specs.Binary.{IsExpr, code_node, code_floats}
use Rattle.module_ast.specs.Places.{code_nesting}
use Rattle.code_decode.specs.declared.expr.Expr.{Expr}
use Rattle.code_decode.specs.declared.expr.Expr.TheVariants.{Built, Floats, Deep}

-- the expression at the front of the bytes: its tree, or one with a floating-point node, or one that nests deeper than
-- the bound
abbrev pub IsExprAnswer : (bound : ℕ) → Expr → (bytes rest : List ℕ) → Type 0
IsExprAnswer bound (Built t) bytes rest = IsFront IsExpr bytes rest (code_node t) × (code_nesting t ≤ bound)
IsExprAnswer bound Floats bytes rest = (t : grammar.CodeNode) × IsFront IsExpr bytes rest t × (code_floats t ≡ true)
IsExprAnswer bound (Deep found) bytes rest = (t : Tree) × IsFront IsExpr bytes rest (code_node t) × (found ≡ code_nesting t) × (bound < found)
